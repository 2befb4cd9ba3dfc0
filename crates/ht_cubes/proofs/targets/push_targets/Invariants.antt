use Rattle.std.proofs.Common.{◌≡◌, ◌++◌, take}
use Rattle.ht_cubes.specs.Formula.{some_target, target_clauses}
use Rattle.ht_cubes.proofs.targets.push_targets.Given as goal

abbrev pub invariant-targets : goal.invariant-targets
invariant-targets l = record {
  rows : l.rows ≡ l.initial.rows ++ target_clauses l.first (take l.i l.targets);
  some : l.some.items ≡ some_target l.first (take l.i l.targets);
}
