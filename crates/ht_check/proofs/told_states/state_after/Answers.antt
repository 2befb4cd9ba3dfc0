use Rattle.std.proofs.Common.{◌∙◌, length, ap, sym}
use Rattle.ht_tern.specs.declared.tern.Tern.{Tern}
use Rattle.ht_net.specs.Circuit.Netlist.{Netlist}
use Rattle.ht_net.specs.Frames.Faults.{tern_rules}
use Rattle.ht_net.specs.Detect.Detection.{terns_of}
use Rattle.ht_serial.specs.MachineState.{MachineState}
use Rattle.ht_net.proofs.ValueLaws.{next_long}
use Rattle.ht_check.proofs.told_states.state_after.Goals as goal

pub step-requires : goal.step-requires
step-requires c = c.requires.vector ∙ sym (ap (λ (m : MachineState Tern). m.circuit.inputs) c.in_ok-machine.ensures)

pub held_state-state-requires-clause-latches : goal.held_state-state-requires-clause-latches
held_state-state-requires-clause-latches c =
    let m = c.in_ok-machine.machine in
    let circuit = ap (λ (m : MachineState Tern). m.circuit) c.in_ok-machine.ensures in
    let long = next_long m.circuit (tern_rules m.fault) (terns_of c.args.vector.now) m.latches in
    c.dffs.ensures ∙ (ap (λ (n : Netlist). length n.dffs) (sym circuit)
    ∙ (sym long ∙ sym (ap (λ (m : MachineState Tern). length m.latches) c.step.ensures)))
