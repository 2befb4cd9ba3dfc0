use Rattle.std.proofs.Common.{◌≡◌, ◌↔◌, ◌∙◌, IfOk, IsTrue, length, ap, sym, subst}
use Rattle.ht_tree.specs.Window.Windows.{SearchWindow, forward_frames, forward_window}
use Rattle.ht_recompute.specs.KeptFramesOf.{KeptState}
use Rattle.ht_check.specs.SearchEnds.{EndsAs}
use Rattle.ht_check.proofs.aims.ends_ahead.Goals as goal

pub forward-requires-clause-good : goal.forward-requires-clause-good
forward-requires-clause-good c =
    c.requires.good ∙ ap (λ (k : KeptState). length k.circuit.dffs) (sym c.in_ok-frames.ensures.taken)

pub forward-requires-clause-faulty : goal.forward-requires-clause-faulty
forward-requires-clause-faulty c =
    c.requires.faulty ∙ ap (λ (k : KeptState). length k.circuit.dffs) (sym c.in_ok-frames.ensures.taken)

pub returns-clause-ends : goal.returns-clause-ends
returns-clause-ends c =
    let good = c.args.good.now in
    let faulty = c.args.faulty.now in
    let n = c.args.kept.now.circuit in
    let window : c.in_ok-window.window ≡ forward_window n c.args.fault forward_frames good faulty =
    c.in_ok-window.ensures
    ∙ (λ i. forward_window (c.in_ok-frames.ensures.taken i).circuit c.args.fault forward_frames good faulty) in
    subst (λ (w : SearchWindow). IfOk c.ends_as.result
    (λ ends. IsTrue ends ↔ EndsAs w c.args.ended.budget c.args.ended.end c.args.ended.tokens.now))
    window
    c.ends_as.ensures.ends
