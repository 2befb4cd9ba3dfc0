use Rattle.std.proofs.Common.{◌≡◌, false, take}
use Rattle.std.specs.List.{list_any}
use Rattle.ht_cubes.specs.Formula.{is_constant}
use Rattle.ht_cubes.proofs.targets.push_target.Given as goal

abbrev pub invariant-rails : goal.invariant-rails
invariant-rails l = list_any (is_constant false) (take l.rail-index l.target) ≡ false
