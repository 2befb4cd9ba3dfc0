use Rattle.std.proofs.lemmas.Grind.{common_steps, elements}
use Rattle.std.proofs.Common.{◌≡◌, ◌∙◌, ◌-◌, ap, arith, length, get_or, take, drop, List, ℕ}
use Rattle.std.proofs.lemmas.List.{get_or_read}
use Rattle.ht_tern.specs.Gate.{operation_of, polarity_of}
use Rattle.ht_lanes.specs.Lanes.{lane_operations}
use Rattle.ht_net.specs.declared.net.NetId.{NetId}
use Rattle.ht_net.specs.Circuit.Netlist.{no_net}
use Rattle.ht_frame.specs.Values.{env_of}
use Rattle.ht_group.proofs.FoldLaws.{fold_next, later_known}
use Rattle.ht_group.proofs.evaluate.eval_nets.Goals as goal

pub loop-arg-preserved : goal.loop-arg-preserved
loop-arg-preserved c blank =
    let items : List NetId = take (length c.args.args.now - 1) (drop 1 c.args.args.now) in
    let net : c.index-in-loop-arg.result ≡ (get_or items c.loop-arg.arg-index no_net).0 = c.index-in-loop-arg.ensures in
    let inside = later_known c.args.args.now (length c.args.words.now) c.loop-arg.arg-index c.index-in-loop-arg.result
    c.requires.known (omega (arith, c.loop-arg-test.true)) net in
    let read = get_or_read c.args.words.now c.index-in-loop-arg.result c.index-words-index-in-loop-arg.result inside
    c.index-words-index-in-loop-arg.is blank in
    ap (polarity_of lane_operations c.args.kind)
    (fold_next (operation_of lane_operations c.args.kind) (env_of blank c.args.words.now) items
    c.loop-arg.arg-index c.loop-arg.word c.combined-word.result c.loop-arg-test.true
    (c.combined-word.ensures ∙ ap
    (λ v. operation_of lane_operations c.args.kind c.loop-arg.word v)
    (read ∙ ap (λ (n : ℕ). env_of blank c.args.words.now n) net)))
    ∙ c.loop-arg.invariant blank

pub loop-arg-init : goal.loop-arg-init
loop-arg-init c = grind (arith, elements)

pub offset_bounds-words-index-in-loop-arg : goal.offset_bounds-words-index-in-loop-arg
offset_bounds-words-index-in-loop-arg c = grind (arith, elements)

pub bounds-words-index-in-loop-arg : goal.bounds-words-index-in-loop-arg
bounds-words-index-in-loop-arg c = grind (arith, elements)

pub returns : goal.returns
returns c = grind (arith, common_steps)
