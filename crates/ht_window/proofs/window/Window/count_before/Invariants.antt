use Rattle.std.proofs.Common.{◌<◌, ◌≤◌, ℕ, get_or, length}
use Rattle.ht_window.proofs.window.Window.count_before.Given as goal

abbrev pub invariant-loop-count : goal.invariant-loop-count
invariant-loop-count l = record {
  inside : l.count ≤ length l.self.marks;
  later : (j : ℕ) → l.count ≤ j → j < length l.self.marks → l.mark.0 ≤ get_or l.self.marks j 0;
}

abbrev pub decreases-loop-count : goal.decreases-loop-count
decreases-loop-count l = l.count
