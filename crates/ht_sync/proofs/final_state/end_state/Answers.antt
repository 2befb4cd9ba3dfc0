use Rattle.std.proofs.Common.{◌∙◌, None, length, map, ap, sym}
use Rattle.ht_tern.specs.declared.tern.Tern.{Tern}
use Rattle.ht_net.specs.Detect.Detection.{terns_of, unknown_state}
use Rattle.ht_tree.specs.Window.WalkBack.{wants_one}
use Rattle.ht_records.proofs.RunStateLaws.{run_held, unknown_held}
use Rattle.ht_serial.specs.MachineState.{MachineState}
use Rattle.ht_sync.proofs.SyncLaws.{synchronizes_to}
use Rattle.ht_sync.proofs.final_state.end_state.Goals as goal

pub run_over-requires-clause-start : goal.run_over-requires-clause-start
run_over-requires-clause-start c = c.in_ok-machine.ensures

pub bits_of-requires-clause-count : goal.bits_of-requires-clause-count
bits_of-requires-clause-count c =
    c.dffs.ensures ∙ sym (ap (λ (m : MachineState Tern). length m.circuit.dffs) c.run_over.ensures)

pub bits_of-requires-clause-latches : goal.bits_of-requires-clause-latches
bits_of-requires-clause-latches c =
    let n = c.args.circuit.now in
    c.dffs.ensures
    ∙ sym (ap (λ (m : MachineState Tern). length m.latches) c.run_over.ensures
    ∙ run_held n None (unknown_state n) c.args.list.now.list (unknown_held n))

pub returns : goal.returns
returns c =
    synchronizes_to c.args.circuit.now c.args.list.now.list c.requires.synchronizes
    ∙ sym (ap terns_of (c.from_vec.ensures ∙ (c.in_ok-bits.ensures
    ∙ ap (λ (m : MachineState Tern). map wants_one m.latches) c.run_over.ensures)))
