use Rattle.std.proofs.Common.{◌≡◌, ◌<◌, ◌+◌, ℕ, get_or, [], None}
use Rattle.ht_pairs.specs.Decided.{same_pairs}
use Rattle.ht_recompute.proofs.decisions.write_inputs.Given as goal

abbrev pub invariant-loop-i : goal.invariant-loop-i
invariant-loop-i l = (k : ℕ) → k < l.i → get_or l.vector k [] ≡ same_pairs (get_or l.decisions (l.first + k) None)
