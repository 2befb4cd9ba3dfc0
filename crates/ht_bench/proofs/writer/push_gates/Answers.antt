use Rattle.std.proofs.Common.{◌<◌, arith, append_assoc, add_assoc}
use Rattle.std.proofs.lemmas.List.{drop_more}
use Rattle.std.proofs.lemmas.List.Elements.{All-from_get_or}
use Rattle.ht_net.specs.declared.net.NetId.{NetId}
use Rattle.ht_net.specs.Circuit.Netlist.{gate_at, net_count, no_gate, no_net}
use Rattle.ht_bench.proofs.writer.push_gates.Goals as goal

pub push_gate-requires : goal.push_gate-requires
push_gate-requires c =
    let circuit = c.args.circuit.now in
    rw c.gate_args-args.ensures.args
    (All-from_get_or (λ (net : NetId). net.0 < net_count circuit) (gate_at circuit c.loop-gate.gate).args no_net
    (λ i within. c.gate_args-args.ensures.circuit.known c.loop-gate.gate i (omega arith) within))

pub loop-gate-preserved : goal.loop-gate-preserved
loop-gate-preserved c =
    rw (
      c.in_ok-push_gate.ensures,
      append_assoc c.loop-gate.text.items _ _,
      c.name.ensures,
      c.gate_net-out.ensures.net,
      c.gate_kind.ensures,
      c.gate_args-args.ensures.args,
      ← add_assoc,
    )
    (rw (drop_more c.args.circuit.now.gates c.loop-gate.gate no_gate (omega arith)) at c.loop-gate.invariant)
