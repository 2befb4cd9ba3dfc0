use Rattle.std.proofs.Common.{◌≡◌, ℕ, length, get_or, drop, false, ◌||◌}
use Rattle.ht_tree.specs.Window.Decisions.{is_in}
use Rattle.ht_recompute.proofs.window_start.marks_of.Given as goal

abbrev pub invariant-loop-j : goal.invariant-loop-j
invariant-loop-j l = record {
  count : length l.marks.items ≡ l.count;
  marks : (j : ℕ) → (get_or l.marks.items j false || is_in (drop l.j-index l.z) j) ≡ is_in l.z j;
}
