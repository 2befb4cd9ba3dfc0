use Rattle.std.proofs.Common.{◌∙◌, List, map, length, ap, sym, subst}
use Rattle.ht_tern.specs.declared.tern.Tern.{Tern}
use Rattle.ht_net.specs.Circuit.Netlist.{Netlist}
use Rattle.ht_net.specs.Frames.Faults.{tern_rules}
use Rattle.ht_net.specs.Detect.Detection.{terns_of}
use Rattle.ht_serial.specs.MachineState.{MachineState, after, started}
use Rattle.ht_tree.specs.Record.Reached.{AreVectors}
use Rattle.ht_check.proofs.AttemptLaws.{state_long}
use Rattle.ht_check.proofs.attempts.machine_ahead.Goals as goal

pub start_from-requires : goal.start_from-requires
start_from-requires c =
    ap length (c.deref.ensures.value ∙ c.in_ok-state.ensures)
    ∙ state_long c.args.circuit.now c.args.fault c.args.told.now

pub run_over-requires : goal.run_over-requires
run_over-requires c =
    let circuit = ap (λ (m : MachineState Tern). m.circuit) c.in_ok-machine.ensures in
    subst (λ (n : Netlist). AreVectors n c.args.ahead.now.list) (sym circuit) c.requires

pub returns : goal.returns
returns c =
    let n = c.args.circuit.now in
    c.run_over.ensures ∙ ap (λ (m : MachineState Tern). after tern_rules m (map terns_of c.args.ahead.now.list))
    (c.in_ok-machine.ensures ∙ ap (λ (s : List Tern). started tern_rules n c.args.fault s)
    (c.deref.ensures.value ∙ c.in_ok-state.ensures))
