use Rattle.ht_lanes.proofs.OperationLaws.{and_lanes, and_apart}
use Rattle.ht_lanes.proofs.word.WordGateOperations.conjunction.Goals as goal

pub invariant_of-result : goal.invariant_of-result
invariant_of-result c = and_apart _ _ _ _ c.self.invariant c.other.invariant

pub returns : goal.returns
returns c = rw (← c.self.view_is, ← c.other.view_is) (and_lanes _ _ _ _ c.self.invariant c.other.invariant)
