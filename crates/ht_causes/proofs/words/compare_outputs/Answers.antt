use Rattle.std.proofs.Common.{◌≡◌, length, subst, arith}
use Rattle.std.proofs.lemmas.Option.{slice_get_within}
use Rattle.ht_causes.specs.Tracks.{AreOutputsShown}
use Rattle.ht_causes.proofs.WordShownLaws.{first_word, outputs_more, outputs_none}
use Rattle.ht_causes.proofs.words.compare_outputs.Goals as goal

pub loop-o-init : goal.loop-o-init
loop-o-init c = outputs_none c.args.group.now c.args.t c.args.from c.args.count c.args.shown.now

pub loop-o-preserved : goal.loop-o-preserved
loop-o-preserved c =
    outputs_more c.args.group.now c.args.t c.loop-o.o c.args.from c.args.count c.good_output-good.result
    c.shown.result c.args.shown.now c.loop-o.shown c.note_output.new.tracks c.requires.count
    c.good_output-good.ensures
    (λ k m has.
    let inside = slice_get_within c.args.group.now.machines k m has in
    c.shown.ensures.machines k m (omega (arith, inside, c.requires.count, c.requires.few))
    (first_word c.args.group.now k m has))
    c.note_output.ensures c.loop-o.invariant

pub returns : goal.returns
returns c =
    let done : c.loop-o.o ≡ length c.args.circuit.now.outputs = omega arith in
    subst (λ n. AreOutputsShown c.args.group.now c.args.t n c.args.from c.args.count c.args.shown.now c.loop-o.shown)
    done c.loop-o.invariant
