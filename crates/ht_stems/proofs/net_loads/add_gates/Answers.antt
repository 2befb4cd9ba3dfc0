use Rattle.std.proofs.Common.{◌<◌, length, take, arith}
use Rattle.std.specs.List.{sum_by}
use Rattle.ht_net.specs.Circuit.Netlist.{Gate}
use Rattle.ht_net.specs.Circuit.Levels.{times}
use Rattle.ht_stems.proofs.CountLaws.{entries_left, none_counted, gate_counted, gates_counted}
use Rattle.ht_stems.proofs.net_loads.add_gates.Goals as goal

pub loop-gate-init : goal.loop-gate-init
loop-gate-init c = none_counted c.args.circuit.now c.args.table.now c.requires.none

pub add_gate-requires-clause-entries : goal.add_gate-requires-clause-entries
add_gate-requires-clause-entries c = entries_left c.requires.entries (omega (arith, c.loop-gate.auto.table))

pub loop-gate-preserved : goal.loop-gate-preserved
loop-gate-preserved c =
    let inside : c.loop-gate.gate < length c.args.circuit.now.gates =
    omega (arith, c.loop-gate-test.true, c.gates-gate-end.ensures) in
    gate_counted c.args.circuit.now c.add_gate.new.table c.loop-gate.gate inside
    (c.add_gate.ensures (λ x. sum_by (λ (g : Gate). times x g.args) (take c.loop-gate.gate c.args.circuit.now.gates))
    c.loop-gate.invariant)

pub returns : goal.returns
returns c = gates_counted c.args.circuit.now c.loop-gate.table c.loop-gate.gate
    (omega (arith, c.loop-gate-test.false, c.gates-gate-end.ensures)) c.loop-gate.invariant
