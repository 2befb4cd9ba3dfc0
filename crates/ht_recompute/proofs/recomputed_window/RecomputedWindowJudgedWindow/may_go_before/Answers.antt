use Rattle.std.proofs.Common.{◌∙◌, ap, sym}
use Rattle.ht_tree.specs.Window.Windows.{SearchWindow}
use Rattle.ht_recompute.specs.WindowStarts.{window_start}
use Rattle.ht_recompute.proofs.recomputed_window.RecomputedWindowJudgedWindow.may_go_before.Goals as goal

pub goes_before-requires : goal.goes_before-requires
goes_before-requires c = (
  c.in-Back.cube.now,
  ap (λ (w : SearchWindow). w.start) (sym c.self.view_is) ∙ ap window_start c.in-Back.is,
)
