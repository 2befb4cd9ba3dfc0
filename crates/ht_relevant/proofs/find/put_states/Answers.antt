use Rattle.std.proofs.Common.{ap, arith}
use Rattle.ht_net.specs.declared.net.NetId.{NetId}
use Rattle.ht_relevant.proofs.PutLaws.{net_at, none_put, one_more_put, state_shown, still_inside}
use Rattle.ht_relevant.proofs.find.put_states.Goals as goal

pub loop-j-init : goal.loop-j-init
loop-j-init c = none_put c.args.near.now (net_at c.args.circuit.now.dffs)
    (state_shown c.args.away.now c.args.site c.args.counted.now)

pub put_if-requires : goal.put_if-requires
put_if-requires c =
    still_inside c.requires.count c.loop-j.invariant.grown (ap (λ (x : NetId). x.0) c.dff_data-net.ensures)
    (c.nets.ensures.circuit.data_known c.loop-j.j (omega (arith, c.loop-j-test.true, c.dffs-j-end.ensures)))

pub loop-j-preserved : goal.loop-j-preserved
loop-j-preserved c =
    one_more_put c.args.near.now (net_at c.args.circuit.now.dffs)
    (state_shown c.args.away.now c.args.site c.args.counted.now) c.loop-j.near c.put_if.new.self c.loop-j.j
    c.dff_data-net.result.0 c.loop-j.invariant c.in_ok-put_if.ensures.grown
    (ap (λ (x : NetId). x.0) c.dff_data-net.ensures)
    (λ is. c.in_ok-put_if.ensures.put (c.is_shown-shown.ensures is.0 is.1))

pub returns-clause-put : goal.returns-clause-put
returns-clause-put c = λ j js counts is.
    c.loop-j.invariant.put j (omega (arith, c.loop-j-test.false, c.dffs-j-end.ensures, js)) (counts, is)
