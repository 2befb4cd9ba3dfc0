use Rattle.std.proofs.Common.{◌∙◌, None, Some, length, ap, arith, sym}
use Rattle.ht_tern.specs.declared.tern.Tern.{Tern}
use Rattle.ht_net.specs.declared.place.Place.{Place}
use Rattle.ht_net.specs.Detect.Detection.{unknown_state}
use Rattle.ht_serial.specs.Contradictions.{Contradicts}
use Rattle.ht_serial.specs.MachineState.{MachineState}
use Rattle.ht_serial.proofs.ContradictionLaws.{first_here, none_before, none_more}
use Rattle.ht_serial.proofs.RowLaws.{ran_more}
use Rattle.ht_serial.proofs.contradiction.first_contradiction.Goals as goal

pub first_opposite-requires : goal.first_opposite-requires
first_opposite-requires c =
    let outputs = λ (m : MachineState Tern). length m.circuit.outputs in
    c.get-in-loop-t.ensures.width ∙ c.requires.outputs
    ∙ sym (ap outputs c.step.ensures ∙ ap outputs c.loop-t.invariant.machine)

pub returns-in-Some-clause-first : goal.returns-in-Some-clause-first
returns-in-Some-clause-first c =
    let n = c.args.circuit.now in
    let list = c.args.list.now.list in
    let rows = c.args.observation.now.rows in
    let ran = ran_more n c.args.fault (unknown_state n) list c.loop-t.t c.loop-t.machine c.step.new.self
    c.get.result.now (omega arith) c.loop-t.invariant.machine c.get.ensures.row c.step.ensures in
    let here = first_here n c.args.fault list rows c.loop-t.t c.get-in-loop-t.result.now c.step.new.self.outputs
    (Some c.in-Some.output) c.get-in-loop-t.ensures.row ran.row c.in-Some.ensures in
    let place : Place = record { vector = c.loop-t.t; output = c.in-Some.output } in
    (here.0, none_before (Contradicts n c.args.fault list rows) place c.loop-t.invariant.none here.1)

pub loop-t-preserved : goal.loop-t-preserved
loop-t-preserved c =
    let n = c.args.circuit.now in
    let list = c.args.list.now.list in
    let rows = c.args.observation.now.rows in
    let ran = ran_more n c.args.fault (unknown_state n) list c.loop-t.t c.loop-t.machine c.step.new.self
    c.get.result.now (omega arith) c.loop-t.invariant.machine c.get.ensures.row c.step.ensures in
    let here = first_here n c.args.fault list rows c.loop-t.t c.get-in-loop-t.result.now c.step.new.self.outputs None
    c.get-in-loop-t.ensures.row ran.row c.in_default.ensures in
    record {
      machine = ran.next;
      none = none_more (Contradicts n c.args.fault list rows) c.loop-t.t c.loop-t.invariant.none here;
    }
