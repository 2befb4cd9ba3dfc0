use Rattle.std.proofs.Common.{◌≡◌, take}
use Rattle.ht_cubes.specs.Cones.{marked}
use Rattle.ht_cubes.specs.Formula.{next_target}
use Rattle.ht_cubes.proofs.machines.Machines.push_next.Given as goal

abbrev pub invariant-rails : goal.invariant-rails
invariant-rails l = l.target.items ≡ next_target l.self.circuit.now l.self.fault (marked l.self.cone.now)
    (take l.rail-index l.cube)
