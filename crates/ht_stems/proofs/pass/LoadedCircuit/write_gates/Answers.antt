use Rattle.std.proofs.Common.{◌<◌, ◌-◌, length, arith}
use Rattle.ht_tern.specs.declared.tern.Tern.TheVariants.{Unk}
use Rattle.ht_frame.specs.Values.{env_of}
use Rattle.ht_stems.proofs.PassLaws.{gates_after, all_gates_end}
use Rattle.ht_stems.proofs.pass.LoadedCircuit.write_gates.Goals as goal

pub ends_of-requires-clause-after : goal.ends_of-requires-clause-after
ends_of-requires-clause-after c =
    let inside : length c.order-order.result.now - 1 - c.loop-i.i < length c.order-order.result.now =
    omega (arith, c.loop-i-test.true) in
    gates_after c.args.self.now.circuit.now c.args.values.now c.loop-i.values c.args.self.now.loads.now c.loop-i.ends
    c.order-order.result.now (length c.order-order.result.now - 1 - c.loop-i.i) c.gate_net-net.result.0
    c.order-order.ensures.order c.requires.tables.loads inside c.loop-i.invariant.same c.gate_net-net.ensures.net
    (λ j later known. c.loop-i.invariant.done j (omega (arith, later, c.loop-i-test.true)) known)

pub returns-clause-ends : goal.returns-clause-ends
returns-clause-ends c =
    all_gates_end c.args.self.now.circuit.now (env_of Unk c.args.values.now) c.loop-i.ends c.order-order.result.now
    c.order-order.ensures.order
    (λ j known. c.loop-i.invariant.done j (omega (arith, c.loop-i-test.false, c.loop-i.auto.i-end)) known)
