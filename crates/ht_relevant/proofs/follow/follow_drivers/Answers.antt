use Rattle.std.proofs.Common.{◌-◌, ◌+◌, ap, subst, arith}
use Rattle.std.specs.List.{Contains}
use Rattle.ht_net.specs.declared.net.NetId.{NetId}
use Rattle.ht_net.specs.Circuit.Netlist.{IsCircuit}
use Rattle.ht_relevant.proofs.DriverLaws.{gate_followed, latch_followed, input_followed}
use Rattle.ht_relevant.proofs.follow.follow_drivers.Goals as goal

pub put_next-requires : goal.put_next-requires
put_next-requires c =
    let n = c.args.circuit.now in
    let inputs = c.inputs-inputs.ensures in
    let dffs = c.dffs.ensures in
    let high = c.if-net-first_gate_net.false in
    let low = c.if-net-inputs.false in
    let circuit : IsCircuit n = c.nets.ensures.circuit in
    let j = c.args.net - c.inputs-inputs.result in
    let known = circuit.data_known j (omega (arith, inputs, dffs, high, low)) in
    let pin = ap (λ (x : NetId). x.0) c.dff_data-data.ensures in
    let count = c.requires.count in
    omega (arith, known, pin, count)

pub returns-then-net-first_gate_net-clause-followed : goal.returns-then-net-first_gate_net-clause-followed
returns-then-net-first_gate_net-clause-followed c =
    let inputs = c.inputs-inputs.ensures in
    let dffs = c.dffs.ensures in
    let high = c.if-net-first_gate_net.true in
    gate_followed c.args.circuit.now c.put_arguments.new.distances c.args.net
    (c.args.net - (c.inputs-inputs.result + c.dffs.result)) (omega (arith, inputs, dffs, high))
    c.in_ok-put_arguments.ensures.put

pub returns-then-net-inputs-clause-followed : goal.returns-then-net-inputs-clause-followed
returns-then-net-inputs-clause-followed c =
    let inputs = c.inputs-inputs.ensures in
    let low = c.if-net-inputs.true in
    input_followed c.args.circuit.now c.args.distances.now c.args.net (omega (arith, inputs, low))

pub returns-clause-followed : goal.returns-clause-followed
returns-clause-followed c =
    let n = c.args.circuit.now in
    let inputs = c.inputs-inputs.ensures in
    let dffs = c.dffs.ensures in
    let high = c.if-net-first_gate_net.false in
    let low = c.if-net-inputs.false in
    let j = c.args.net - c.inputs-inputs.result in
    let pin = ap (λ (x : NetId). x.0) c.dff_data-data.ensures in
    latch_followed n c.put_next.new.self c.args.net j (omega (arith, inputs, dffs, high, low))
    (omega (arith, inputs, low)) (subst (Contains c.put_next.new.self.next) pin c.in_ok-put_next.ensures.put)
