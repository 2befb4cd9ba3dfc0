use Rattle.std.proofs.Common.{◌≡◌, ◌∙◌, length, ap, subst, sym, arith}
use Rattle.std.proofs.lemmas.Option.{slice_get_within}
use Rattle.ht_net.specs.Circuit.Netlist.{Netlist}
use Rattle.ht_causes.specs.Tracks.{AreLatchesShown}
use Rattle.ht_causes.proofs.WordShownLaws.{first_word, latches_all, latches_more, latches_none}
use Rattle.ht_causes.proofs.words.compare_latches.Goals as goal

pub loop-j-init : goal.loop-j-init
loop-j-init c =
    latches_none c.args.group.now c.args.t c.args.from c.args.count c.args.shown.now c.requires.count c.requires.empty

pub loop-j-preserved : goal.loop-j-preserved
loop-j-preserved c =
    latches_more c.args.group.now c.args.t c.loop-j.j c.args.from c.args.count c.good_next-good.result
    c.next.result c.args.shown.now c.loop-j.shown c.note_latch.new.tracks c.requires.count
    c.good_next-good.ensures
    (λ k m has.
    let inside = slice_get_within c.args.group.now.machines k m has in
    c.next.ensures.machines k m (omega (arith, inside, c.requires.count, c.requires.few))
    (first_word c.args.group.now k m has))
    c.in_ok-note_latch.ensures c.loop-j.invariant

pub returns : goal.returns
returns c =
    let done : c.loop-j.j ≡ length c.args.circuit.now.dffs = omega arith in
    subst (λ n. AreLatchesShown c.args.group.now c.args.t n c.args.from c.args.count c.args.shown.now c.loop-j.shown)
    done (latches_all c.args.group.now c.args.t c.loop-j.j c.args.from c.args.count c.args.shown.now c.loop-j.shown
    (done ∙ sym (ap (λ (n : Netlist). length n.dffs) c.requires.circuit)) c.loop-j.invariant)
