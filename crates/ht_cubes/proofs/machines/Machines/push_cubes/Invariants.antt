use Rattle.std.proofs.Common.{◌≡◌, ◌++◌, map, take}
use Rattle.ht_cubes.specs.Cones.{marked}
use Rattle.ht_cubes.specs.Formula.{cube_clause}
use Rattle.ht_cubes.proofs.machines.Machines.push_cubes.Given as goal

abbrev pub invariant-cubes : goal.invariant-cubes
invariant-cubes l = l.rows ≡ l.initial.rows
    ++ map (cube_clause l.self.circuit.now (marked l.self.cone.now)) (take l.cube-index l.cubes)
