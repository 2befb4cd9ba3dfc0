use Rattle.std.proofs.Common.{◌≡◌, ◌<◌, List, length, get_or, ap, arith}
use Rattle.ht_net.specs.declared.net.NetId.{NetId}
use Rattle.ht_net.specs.Circuit.Netlist.{arg_at, gate_at, no_net}
use Rattle.ht_relevant.proofs.PutLaws.{net_at, none_put, one_more_put, still_inside}
use Rattle.ht_relevant.proofs.follow.put_arguments.Goals as goal

pub loop-arg-init : goal.loop-arg-init
loop-arg-init c = none_put c.args.distances.now (arg_at c.args.circuit.now c.args.g) (λ k x. Unit {0})

pub put-requires : goal.put-requires
put-requires c =
    let e = c.gate_args-arg-items.ensures in
    let i = c.loop-arg.arg-index in
    let few = ap (λ (xs : List NetId). length xs) e.args in
    let test = c.loop-arg-test.true in
    let l : i < length (gate_at c.args.circuit.now c.args.g).args = omega (arith, few, test) in
    still_inside c.requires.count c.loop-arg.invariant.grown (ap (λ (xs : List NetId). net_at xs i) e.args)
    (e.circuit.known c.args.g i c.requires.gate l)

pub loop-arg-preserved : goal.loop-arg-preserved
loop-arg-preserved c =
    let items = c.gate_args-arg-items.result.now in
    let i = c.loop-arg.arg-index in
    one_more_put c.args.distances.now (arg_at c.args.circuit.now c.args.g) (λ k x. Unit {0}) c.loop-arg.distances
    c.put.new.self i (net_at items i) c.loop-arg.invariant c.in_ok-put.ensures.grown
    (ap (λ (xs : List NetId). net_at xs i) c.gate_args-arg-items.ensures.args) (λ is. c.in_ok-put.ensures.put)

pub returns-clause-put : goal.returns-clause-put
returns-clause-put c = λ i l.
    let same = ap (λ (xs : List NetId). length xs) c.gate_args-arg-items.ensures.args in
    let test = c.loop-arg-test.false in
    c.loop-arg.invariant.put i (omega (arith, same, test, l)) tt
