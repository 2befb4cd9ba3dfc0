use Rattle.std.proofs.Common.{◌+◌, ◌≡◌, ◌<◌, ◌∙◌, ◌-◌, ap, arith, length, get_or, take, drop, List, ℕ}
use Rattle.std.proofs.lemmas.Grind.{get_or_after_one}
use Rattle.std.proofs.lemmas.List.{get_or-take, get_or_read}
use Rattle.ht_net.specs.declared.net.NetId.{NetId}
use Rattle.ht_net.specs.Circuit.Netlist.{no_net}
use Rattle.ht_frame.specs.Values.{env_of}
use Rattle.ht_frame.proofs.PinLaws.{one_more}
use Rattle.ht_frame.proofs.frame.eval_nets.Goals as goal

pub loop-arg-preserved : goal.loop-arg-preserved
loop-arg-preserved g c =
    let blank = g.V.Domain.blank in
    let items : List NetId = take (length c.args.args.now - 1) (drop 1 c.args.args.now) in
    let net : c.index-in-loop-arg.result ≡ (get_or items c.loop-arg.arg-index no_net).0 = c.index-in-loop-arg.ensures in
    let inside : c.index-in-loop-arg.result < length c.args.values.now =
    let at : get_or items c.loop-arg.arg-index no_net ≡ get_or c.args.args.now (1 + c.loop-arg.arg-index) no_net =
    get_or-take (length c.args.args.now - 1) (drop 1 c.args.args.now) c.loop-arg.arg-index no_net
    (omega (arith, c.loop-arg-test.true)) ∙ get_or_after_one c.args.args.now c.loop-arg.arg-index no_net in
    let e = net ∙ ap (λ (x : NetId). x.0) at in
    let known = c.requires.known (1 + c.loop-arg.arg-index) (omega (arith, c.loop-arg-test.true)) in
    omega (arith, e, known) in
    let read = get_or_read c.args.values.now c.index-in-loop-arg.result c.index-values-index-in-loop-arg.result inside
    c.index-values-index-in-loop-arg.is blank in
    let more = one_more (g.V.Domain.gate c.args.kind) (env_of blank c.args.values.now) items c.loop-arg.arg-index
    c.loop-arg.value c.combined-value.result c.index-values-index-in-loop-arg.result c.loop-arg-test.true
    (read ∙ ap (λ (n : ℕ). env_of blank c.args.values.now n) net) c.combined-value.ensures
    in more ∙ c.loop-arg.invariant
