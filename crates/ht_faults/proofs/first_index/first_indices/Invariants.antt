use Rattle.std.proofs.Common.{◌≡◌, ◌<◌, ℕ, length, get_or}
use Rattle.ht_faults.specs.FirstIndex.{IsFirstIndex, AreNoted}
use Rattle.ht_faults.proofs.first_index.first_indices.Given as goal

abbrev pub invariant-loop-i : goal.invariant-loop-i
invariant-loop-i l = record {
  every : length l.firsts.items ≡ length l.numbers;
  noted : AreNoted l.numbers l.i l.firsts.items;
  long : length l.indices.items ≡ l.i;
  exact : (k : ℕ) → k < l.i → IsFirstIndex l.numbers k (get_or l.indices.items k 0);
}
