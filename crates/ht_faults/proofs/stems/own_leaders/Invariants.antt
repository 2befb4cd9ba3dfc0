use Rattle.std.proofs.Common.{◌≡◌, ◌<◌, ℕ, length, get_or}
use Rattle.ht_faults.proofs.stems.own_leaders.Given as goal

abbrev pub invariant-loop-k : goal.invariant-loop-k
invariant-loop-k l = record {
  long : length l.leaders.items ≡ l.k;
  own : (j : ℕ) → j < l.k → get_or l.leaders.items j 0 ≡ j;
}
