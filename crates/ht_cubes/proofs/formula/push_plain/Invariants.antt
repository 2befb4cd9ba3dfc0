use Rattle.std.proofs.Common.{◌≡◌, false, true, not, take}
use Rattle.std.specs.List.{filter, list_any}
use Rattle.ht_cubes.specs.Formula.{is_constant}
use Rattle.ht_cubes.proofs.formula.push_plain.Given as goal

abbrev pub invariant-literals : goal.invariant-literals
invariant-literals l = record {
  none : list_any (is_constant true) (take l.literal-index l.clause) ≡ false;
  plain : l.plain.items ≡ filter (λ r. not (is_constant false r)) (take l.literal-index l.clause);
}
