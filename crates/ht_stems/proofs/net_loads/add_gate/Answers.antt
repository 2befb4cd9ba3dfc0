use Rattle.std.proofs.Common.{◌≡◌, ◌<◌, List, length, get_or, refl, sym, ap, arith}
use Rattle.ht_net.specs.declared.net.NetId.{NetId}
use Rattle.ht_net.specs.Circuit.Netlist.{gate_at, arg_at, no_net}
use Rattle.ht_stems.specs.declared.net_loads.NetLoads.TheVariants.{OneGate}
use Rattle.ht_stems.proofs.ReadLaws.{times_some}
use Rattle.ht_stems.proofs.CountLaws.{counted_none, counted_all, counted_more}
use Rattle.ht_stems.proofs.net_loads.add_gate.Goals as goal

pub loop-arg-init : goal.loop-arg-init
loop-arg-init c = counted_none c.args.circuit.now c.args.table.now c.gate_args-arg-items.result.now

pub loop-arg-preserved : goal.loop-arg-preserved
loop-arg-preserved c =
    let net = c.args.circuit.now in
    let g = c.args.gate in
    let i = c.loop-arg.arg-index in
    let items = c.gate_args-arg-items.result.now in
    let args = c.gate_args-arg-items.ensures.args in
    let pin : c.loop-arg.arg-index < length (gate_at c.args.circuit.now c.args.gate).args =
    let same = ap (λ (l : List NetId). length l) args in omega (arith, c.loop-arg-test.true, same) in
    let reads : arg_at c.args.circuit.now c.args.gate c.loop-arg.arg-index
    ≡ (get_or c.gate_args-arg-items.result.now c.loop-arg.arg-index no_net).0 =
    ap (λ (l : List NetId). (get_or l c.loop-arg.arg-index no_net).0) (sym args) in
    let known : (get_or c.gate_args-arg-items.result.now c.loop-arg.arg-index no_net).0 < length c.loop-arg.table =
    let there = c.gate_args-arg-items.ensures.circuit.known g i c.requires.gate pin in
    omega (arith, there, reads, c.loop-arg.auto.table, c.requires.entries.count) in
    counted_more net c.args.table.now c.loop-arg.table c.add_load.new.table items i (get_or items i no_net) (OneGate g)
    c.add_load.ensures c.loop-arg-test.true refl known
    (refl, c.requires.gate, times_some (get_or items i no_net).0 i (gate_at net g).args pin reads)
    c.loop-arg.invariant

pub returns : goal.returns
returns c = counted_all c.args.circuit.now c.args.table.now c.loop-arg.table c.gate_args-arg-items.result.now
    (gate_at c.args.circuit.now c.args.gate).args c.loop-arg.arg-index (omega (arith, c.loop-arg-test.false))
    c.gate_args-arg-items.ensures.args c.loop-arg.invariant
