use Rattle.std.proofs.Common.{◌≡◌, length}
use Rattle.ht_uninit.specs.RoundStates.{IsAt}
use Rattle.ht_uninit.proofs.rounds.round.Given as goal

abbrev pub invariant-loop-j : goal.invariant-loop-j
invariant-loop-j l = (l.next.before ≡ length l.fn.rounds.removed.items)
    × IsAt l.circuit l.budget l.next.before l.j l.next.held l.next.removed.items l.next.walks.items
