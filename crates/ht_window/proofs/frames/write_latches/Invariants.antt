use Rattle.std.proofs.Common.{◌≡◌, ◌<◌, ℕ, get_or}
use Rattle.ht_tree.specs.Window.Windows.{first_latch}
use Rattle.ht_window.specs.Cells.{blank}
use Rattle.ht_window.proofs.frames.write_latches.Given as goal

abbrev pub invariant-loop-j : goal.invariant-loop-j
invariant-loop-j l = (k : ℕ) → k < l.j → get_or l.latches k blank
    ≡ first_latch l.decisions.window l.decisions.window.start l.decisions.path k
