use Rattle.std.proofs.Common.{◌∙◌, ap, arith}
use Rattle.std.proofs.lemmas.Bool.{lt-ltb}
use Rattle.ht_net.specs.declared.net.NetId.{NetId}
use Rattle.ht_relevant.specs.Distances.{number_of}
use Rattle.ht_relevant.proofs.PutLaws.{net_at, none_put, one_more_put, output_shown, still_inside}
use Rattle.ht_relevant.proofs.find.put_outputs.Goals as goal

pub loop-o-init : goal.loop-o-init
loop-o-init c = none_put c.args.near.now (net_at c.args.circuit.now.outputs) (output_shown c.args.away.now)

pub put_if-requires : goal.put_if-requires
put_if-requires c =
    still_inside c.requires.count c.loop-o.invariant.grown (ap (λ (x : NetId). x.0) c.output-net.ensures)
    (c.nets.ensures.circuit.outputs_known c.loop-o.o (omega (arith, c.loop-o-test.true, c.outputs-o-end.ensures)))

pub loop-o-preserved : goal.loop-o-preserved
loop-o-preserved c =
    let a = c.args.away.now in
    let x = c.output-net.result.0 in
    let e = c.in_ok-put_if.ensures in
    one_more_put c.args.near.now (net_at c.args.circuit.now.outputs) (output_shown a) c.loop-o.near c.put_if.new.self
    c.loop-o.o x c.loop-o.invariant e.grown (ap (λ (x : NetId). x.0) c.output-net.ensures)
    (λ is. e.put (c.has-shown.ensures ∙ lt-ltb (number_of a x) a.frames is))

pub returns-clause-put : goal.returns-clause-put
returns-clause-put c = λ o os is.
    c.loop-o.invariant.put o (omega (arith, c.loop-o-test.false, c.outputs-o-end.ensures, os)) is
