use Rattle.std.proofs.Common.{◌≡◌, ◌<◌, ◌≤◌, ℕ}
use Rattle.ht_full.specs.Known.{IsStillOpen}
use Rattle.ht_full.proofs.known.Known.open_count.Given as goal

-- there are no more than were looked at, and where there are none so far none of those is open
abbrev pub invariant-loop-fault : goal.invariant-loop-fault
invariant-loop-fault l = record {
  few : l.count ≤ l.fault;
  none : l.count ≡ 0 → (k : ℕ) → k < l.fault → ¬ IsStillOpen l.self k;
}
