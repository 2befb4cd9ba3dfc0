use Rattle.std.proofs.Common.{◌≡◌}
use Rattle.ht_breed.proofs.segments.segment.Given as goal

abbrev pub invariant-loop-t : goal.invariant-loop-t
invariant-loop-t l = l.segment.width ≡ l.width
