use Rattle.std.proofs.Common.{◌<◌, ◌∙◌, length, get_or, ap, arith}
use Rattle.std.proofs.lemmas.List.{get_or_default}
use Rattle.ht_uninit.specs.UninitTexts.{no_output, searched_text}
use Rattle.ht_uninit.proofs.UninitTextLaws.{piece_more}
use Rattle.ht_uninit.proofs.uninit_text.push_outputs.Goals as goal

pub loop-o-preserved : goal.loop-o-preserved
loop-o-preserved c =
    let outs = c.args.answer.now.outs in
    let o = c.loop-o.o in
    let test = c.loop-o-test.true in
    let count = c.requires in
    let l : o < length outs = omega (arith, test, count) in
    piece_more (λ o. searched_text o (get_or outs o no_output)) o _ _ _ _ c.loop-o.invariant
    c.in_ok-push_searched.ensures
    (ap (searched_text o) (c.output.ensures ∙ get_or_default outs o c.output.result.now no_output l))
