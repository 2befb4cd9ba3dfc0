use Rattle.std.proofs.Common.{◌≡◌, ◌≤◌, length, take, drop}
use Rattle.ht_trail.specs.Trails.{restored, IsTrailBelow}
use Rattle.ht_trail.proofs.cells.Cells.undo.Given as goal

abbrev pub invariant-loop-mark : goal.invariant-loop-mark
invariant-loop-mark g l = record {
  enough : l.mark.0 ≤ length l.self-inside.trail.items;
  part : l.self-inside.trail.items ≡ take (length l.self-inside.trail.items) l.fn.self.trail;
  count : length l.self-inside.values.items ≡ length l.fn.self.values;
  within : IsTrailBelow (length l.self-inside.values.items) l.self-inside.trail.items;
  values : restored l.self-inside.values.items (drop l.mark.0 l.self-inside.trail.items)
      ≡ restored l.fn.self.values (drop l.mark.0 l.fn.self.trail);
}

abbrev pub decreases-loop-mark : goal.decreases-loop-mark
decreases-loop-mark g l = length l.self-inside.trail.items
