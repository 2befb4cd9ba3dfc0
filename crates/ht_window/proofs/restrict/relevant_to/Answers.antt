use Rattle.std.proofs.Common.{◌≡◌, ◌<◌, ◌∙◌, ℕ, List, Bool, false, not, get_or, length, ap, sym, arith}
use Rattle.std.proofs.lemmas.Result.{IfOk-weaker}
use Rattle.ht_tree.specs.Window.Windows.{one_frame}
use Rattle.ht_window.specs.Starts.{start_of, marked}
use Rattle.ht_window.proofs.RestrictLaws.{set_apart, set_counts}
use Rattle.ht_window.proofs.restrict.relevant_to.Goals as goal

pub returns-in_ok-counted-in-OneFrame : goal.returns-in_ok-counted-in-OneFrame
returns-in_ok-counted-in-OneFrame c =
    let w = c.args.decisions.now.window in
    let z = c.in-OneFrame.z in
    let marks = c.deref.result.now in
    let start : one_frame (marked 0 z) ≡ w.start = sym (ap start_of c.in-OneFrame.is) ∙ c.start.ensures in
    let n : c.dffs.result ≡ length w.circuit.dffs = c.dffs.ensures in
    let counts : (j : ℕ) → j < length w.circuit.dffs → get_or marks j false ≡ not (get_or z j false) = λ j js.
    ap (λ (l : List Bool). get_or l j false) c.deref.ensures.value
    ∙ (c.in_ok-counted-in-OneFrame.ensures j (omega (arith, n, js))
    ∙ ap (λ (l : List Bool). not (get_or l j false)) c.as_slice.ensures) in
    IfOk-weaker c.find_relevant.result _ _ (λ r h.
    h w c.circuit.ensures.valid (sym c.requires.circuit) c.requires.fault (sym c.frames-frames.ensures)
    (λ j js m. set_apart w.start z c.as_slice-in-OneFrame.result.now start c.as_slice-in-OneFrame.ensures j m)
    (λ j js m. set_counts w.start z marks (length w.circuit.dffs) start counts j js m))
    c.find_relevant.ensures.relevant
