use Rattle.std.proofs.Common.{length}
use Rattle.ht_relevant.proofs.SpreadLaws.{IsGoingOn}
use Rattle.ht_relevant.proofs.spread.go_on.Given as goal

abbrev pub invariant-next : goal.invariant-next
invariant-next l = IsGoingOn l.fn.distances l.distances

abbrev pub decreases-next : goal.decreases-next
decreases-next l = length l.distances.next
