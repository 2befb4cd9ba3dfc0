use Rattle.std.proofs.Common.{◌≡◌, length}
use Rattle.ht_exports.proofs.window.undo_all.Given as goal

abbrev pub invariant-loop-window : goal.invariant-loop-window
invariant-loop-window l = l.window.window ≡ l.fn.window.window

abbrev pub decreases-loop-window : goal.decreases-loop-window
decreases-loop-window l = length l.window.decisions
