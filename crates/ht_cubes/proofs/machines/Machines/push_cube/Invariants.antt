use Rattle.std.proofs.Common.{◌≡◌, take}
use Rattle.ht_cubes.specs.Cones.{marked}
use Rattle.ht_cubes.specs.Formula.{cube_clause}
use Rattle.ht_cubes.proofs.machines.Machines.push_cube.Given as goal

abbrev pub invariant-rails : goal.invariant-rails
invariant-rails l = l.clause.items ≡ cube_clause l.self.circuit.now (marked l.self.cone.now) (take l.rail-index l.cube)
