use Rattle.std.proofs.Common.{◌≡◌, ◌<◌, ◌+◌, ℕ, length, get_or}
use Rattle.ht_events.proofs.ranks.firing_order.Given as goal

abbrev pub invariant-loop-source : goal.invariant-loop-source
invariant-loop-source l = record {
  count : length l.order.items ≡ l.source;
  low : (i : ℕ) → i < l.source → get_or l.order.items i 0 ≡ i;
}

abbrev pub invariant-loop-g : goal.invariant-loop-g
invariant-loop-g l = record {
  count : length l.order.items ≡ l.sources + l.g-index;
  low : (i : ℕ) → i < l.sources → get_or l.order.items i 0 ≡ i;
  gates : (k : ℕ) → k < l.g-index → get_or l.order.items (l.sources + k) 0 ≡ l.sources + get_or l.gates k 0;
}
