use Rattle.std.proofs.Common.{◌-◌, length}
use Rattle.ht_uninit.specs.RoundStates.{IsAt}
use Rattle.ht_uninit.proofs.rounds.find_held.Given as goal

abbrev pub invariant-rounds : goal.invariant-rounds
invariant-rounds l =
    IsAt l.circuit l.budget (length l.rounds.removed.items) 0 l.rounds.held l.rounds.removed.items l.rounds.walks.items

abbrev pub decreases-rounds : goal.decreases-rounds
decreases-rounds l = length l.circuit.dffs - length l.rounds.removed.items
