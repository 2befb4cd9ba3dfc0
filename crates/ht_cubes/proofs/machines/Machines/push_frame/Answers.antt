use Rattle.std.proofs.Common.{◌++◌, ◌∙◌, ap}
use Rattle.ht_cubes.specs.declared.signal.Signal.{Signal}
use Rattle.ht_cubes.specs.Formula.{both_clauses, either_clauses, input_clauses, latch_clauses}
use Rattle.ht_cubes.specs.Cones.{marked}
use Rattle.ht_cubes.proofs.ListLaws.{piece_more}
use Rattle.ht_cubes.proofs.machines.Machines.push_frame.Goals as goal

pub inputs-preserved : goal.inputs-preserved
inputs-preserved c = piece_more (input_clauses c.args.self.now.circuit.now (marked c.args.self.now.cone.now))
    c.args.rows.now c.inputs.rows c.push_either.new.rows c.inputs.x c.inputs.invariant
    (c.in_ok-push_either.ensures ∙ ap (λ (s : Signal). c.inputs.rows ++ either_clauses s) c.driver.ensures)

pub latches-preserved : goal.latches-preserved
latches-preserved c = piece_more (latch_clauses c.args.self.now.circuit.now (marked c.args.self.now.cone.now))
    c.inputs.rows c.latches.rows c.push_latch.new.rows c.latches.j c.latches.invariant c.in_ok-push_latch.ensures

pub gates-preserved : goal.gates-preserved
gates-preserved c = piece_more (both_clauses c.args.self.now.circuit.now c.args.self.now.fault
    (marked c.args.self.now.cone.now)) c.latches.rows c.gates.rows c.push_both.new.rows c.gates.g c.gates.invariant
    c.in_ok-push_both.ensures
