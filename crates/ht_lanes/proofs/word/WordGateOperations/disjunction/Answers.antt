use Rattle.ht_lanes.proofs.OperationLaws.{or_lanes, or_apart}
use Rattle.ht_lanes.proofs.word.WordGateOperations.disjunction.Goals as goal

pub invariant_of-result : goal.invariant_of-result
invariant_of-result c = or_apart _ _ _ _ c.self.invariant c.other.invariant

pub returns : goal.returns
returns c = rw (← c.self.view_is, ← c.other.view_is) (or_lanes _ _ _ _ c.self.invariant c.other.invariant)
