use Rattle.std.proofs.Common.{◌≡◌, ◌<◌, ℕ, false, not, length, get_or}
use Rattle.ht_window.proofs.restrict.outside.Given as goal

abbrev pub invariant-loop-j : goal.invariant-loop-j
invariant-loop-j l = record {
  count : length l.marks.items ≡ l.j;
  is : (k : ℕ) → k < l.j → get_or l.marks.items k false ≡ not (get_or l.z k false);
}
