use Rattle.std.proofs.Common.{◌≡◌, ◌++◌}
use Rattle.std.specs.List.{flat_map, range_with_len}
use Rattle.ht_cubes.specs.Cones.{marked}
use Rattle.ht_cubes.specs.Formula.{both_clauses, input_clauses, latch_clauses}
use Rattle.ht_cubes.proofs.machines.Machines.push_frame.Given as goal

abbrev pub invariant-inputs : goal.invariant-inputs
invariant-inputs l = l.rows ≡ l.initial.rows
    ++ flat_map (input_clauses l.self.circuit.now (marked l.self.cone.now)) (range_with_len 0 l.x)

abbrev pub invariant-latches : goal.invariant-latches
invariant-latches l = l.rows ≡ l.initial.rows
    ++ flat_map (latch_clauses l.self.circuit.now (marked l.self.cone.now)) (range_with_len 0 l.j)

abbrev pub invariant-gates : goal.invariant-gates
invariant-gates l = l.rows ≡ l.initial.rows
    ++ flat_map (both_clauses l.self.circuit.now l.self.fault (marked l.self.cone.now)) (range_with_len 0 l.g)
