use Rattle.std.proofs.Common.{Bool, false, get_or, ap}
use Rattle.ht_texts.specs.Lines.{with_lf}
use Rattle.ht_uninit.specs.UninitTexts.{hidden_line}
use Rattle.ht_uninit.proofs.UninitTextLaws.{piece_more}
use Rattle.ht_uninit.proofs.uninit_text.push_faults.Goals as goal

pub loop-i-preserved : goal.loop-i-preserved
loop-i-preserved c =
    let n = c.args.circuit.now in
    let classes = c.args.classes.now in
    let hidden = c.args.answer.now.hidden in
    piece_more (λ i. with_lf (hidden_line n classes i (get_or hidden i false))) c.loop-i.i _ _ _ _ c.loop-i.invariant
    c.in_ok-push_hidden.ensures (ap (λ (b : Bool). with_lf (hidden_line n classes c.loop-i.i b)) c.hidden.ensures)
