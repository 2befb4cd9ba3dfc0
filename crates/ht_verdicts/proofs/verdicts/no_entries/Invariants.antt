use Rattle.std.proofs.Common.{◌≡◌, ℕ, None, get_or, length}
use Rattle.ht_verdicts.proofs.verdicts.no_entries.Given as goal

abbrev pub invariant-loop-fault : goal.invariant-loop-fault
invariant-loop-fault l = record {
  count : length l.entries.items ≡ l.fault;
  none : (i : ℕ) → get_or l.entries.items i None ≡ None;
}
