use Rattle.std.proofs.Common.{◌≡◌, ◌++◌, map, take}
use Rattle.std.specs.List.{filter, flat_map}
use Rattle.ht_cubes.specs.Cones.{marked}
use Rattle.ht_cubes.specs.Formula.{may_come, next_target, output_targets}
use Rattle.ht_cubes.proofs.machines.Machines.all_targets.Given as goal

abbrev pub invariant-cubes : goal.invariant-cubes
invariant-cubes l = l.rows ≡ filter may_come
    (map (next_target l.self.circuit.now l.self.fault (marked l.self.cone.now)) (take l.cube-index l.cubes))

abbrev pub invariant-places : goal.invariant-places
invariant-places l = l.rows ≡ l.initial.rows
    ++ filter may_come (flat_map (output_targets l.self.circuit.now l.self.fault (marked l.self.cone.now))
    (take l.o l.self.circuit.now.outputs))
