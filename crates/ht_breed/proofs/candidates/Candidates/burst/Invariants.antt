use Rattle.std.proofs.Common.{◌≡◌, length}
use Rattle.ht_breed.proofs.candidates.Candidates.burst.Given as goal

abbrev pub invariant-loop-frame : goal.invariant-loop-frame
invariant-loop-frame l = (l.burst.width ≡ l.width) × (length l.burst.list ≡ l.frame)
