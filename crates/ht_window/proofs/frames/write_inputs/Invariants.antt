use Rattle.std.proofs.Common.{◌≡◌, ◌<◌, ◌+◌, ℕ, get_or}
use Rattle.ht_tree.specs.Window.Windows.{first_input, input_set}
use Rattle.ht_window.specs.Cells.{blank}
use Rattle.ht_window.proofs.frames.write_inputs.Given as goal

abbrev pub invariant-loop-i : goal.invariant-loop-i
invariant-loop-i l = (k : ℕ) → k < l.i → get_or l.vector k blank
    ≡ input_set l.decisions.path (first_input l.decisions.window l.frame + k)
