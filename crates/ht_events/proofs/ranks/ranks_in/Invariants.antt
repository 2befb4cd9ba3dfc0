use Rattle.std.proofs.Common.{◌≡◌, ◌<◌, ℕ, length, get_or}
use Rattle.ht_events.proofs.ranks.ranks_in.Given as goal

abbrev pub invariant-loop-r : goal.invariant-loop-r
invariant-loop-r l = record {
  count : length l.ranks.items ≡ length l.order;
  done : (q : ℕ) → q < l.r → get_or l.ranks.items (get_or l.order q 0) 0 ≡ q;
}
