use Rattle.std.proofs.Common.{None, get_or, refl}
use Rattle.ht_uninit.specs.UninitTexts.{held_text}
use Rattle.ht_uninit.proofs.UninitTextLaws.{piece_more}
use Rattle.ht_uninit.proofs.uninit_text.push_held.Goals as goal

pub loop-j-preserved : goal.loop-j-preserved
loop-j-preserved c =
    let walks = c.args.answer.now.walks in
    piece_more (λ j. held_text j (get_or walks j None)) c.loop-j.j _ _ _ _ c.loop-j.invariant
    c.in_ok-push_held_dff.ensures refl
