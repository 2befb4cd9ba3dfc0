use Rattle.std.proofs.Common.{◌≡◌, ◌∙◌, List, Option, ap, refl}
use Rattle.std.specs.Prelude.{flat_map}
use Rattle.std.specs.List.{range_with_len}
use Rattle.ht_tern.specs.declared.tern.Tern.{Tern}
use Rattle.ht_tree.specs.Walk.Counts.{seeks_difference}
use Rattle.ht_tree.specs.Window.Windows.{SearchWindow}
use Rattle.ht_tree.specs.Window.WindowStatus.{status_at, without_place}
use Rattle.ht_recompute.specs.Differences.{differences_in, status_by}
use Rattle.ht_recompute.specs.FrameSetsOf.{FrameState, latches_after, outputs_of_frame}
use Rattle.ht_recompute.specs.RecomputedWindowOf.{window_of}
use Rattle.ht_recompute.proofs.StatusLaws.{difference_is}
use Rattle.ht_recompute.proofs.BegunLaws.{frame_begun, written_over}
use Rattle.ht_recompute.proofs.recomputed_window.RecomputedWindow.difference_status.Goals as goal

pub returns-clause-status : goal.returns-clause-status
returns-clause-status c =
    let a = c.self.inside in
    let D : List (Option Tern) = c.write_decisions.new.decisions in
    let s : FrameState = c.begin.new.self in
    let begun = frame_begun a _ D c.deref_mut.ensures.value c.write_decisions.ensures.room _ _ c.self.invariant
    c.deref.ensures.value c.begin.ensures in
    let again : c.deref-2.result.now ≡ D =
    written_over a _ D c.deref_mut.ensures.value c.write_decisions.ensures.room _ c.deref-2.ensures.value in
    c.status.ensures
    ∙ (ap status_by c.and.ensures
    ∙ (difference_is (window_of a) c.args.path.now D a.start c.self.invariant.window.start refl c.self.invariant.start
    c.write_decisions.ensures.written begun.room s begun.circuit begun.fault begun.latches
    (ap (λ (w : SearchWindow). seeks_difference w.start) c.self.view_is ∙ c.requires) c.run_frames-shown.result
    c.states_show.result c.latches.result.now
    (c.run_frames-shown.ensures.shown
    ∙ ap (λ (t : List (Option Tern)). differences_in (flat_map (outputs_of_frame s t) (range_with_len 0 a.frames)))
    again)
    (c.latches.ensures.latches ∙ (c.run_frames-shown.ensures.latches
    ∙ ap (λ (t : List (Option Tern)). latches_after s t a.frames) again))
    c.states_show.ensures
    ∙ ap (λ (w : SearchWindow). without_place (status_at w c.args.path.now)) c.self.view_is))
