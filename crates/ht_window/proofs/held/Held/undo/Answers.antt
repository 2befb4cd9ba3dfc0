use Rattle.std.proofs.Common.{◌≤◌, ◌∙◌, ap, sym, drop, length, subst}
use Rattle.ht_trail.proofs.TrailLaws.{restored_length}
use Rattle.ht_events.specs.Plans.{max_frames}
use Rattle.ht_tree.specs.Window.Windows.{SearchWindow, IsWindow}
use Rattle.ht_window.specs.Cells.{cell_count}
use Rattle.ht_window.proofs.held.Held.undo.Goals as goal

pub invariant_of-self : goal.invariant_of-self
invariant_of-self c =
    let a = c.self.inside in
    let i = c.self.invariant in
    let w = c.truncate.ensures.window in
    record {
      window = subst IsWindow (sym w) i.window;
      few = subst (λ (w : SearchWindow). w.frames ≤ max_frames) (sym w) i.few;
      count = ap length c.undo.ensures.values ∙
          (restored_length a.cells.values (drop c.args.mark.0 a.cells.trail) ∙ (i.count ∙ ap cell_count (sym w)));
      pins = i.pins;
    }
