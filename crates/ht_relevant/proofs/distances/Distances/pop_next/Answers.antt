use Rattle.ht_relevant.proofs.DistanceLaws.{last_in, next_less}
use Rattle.ht_relevant.proofs.distances.Distances.pop_next.Goals as goal

pub returns-clause-inside : goal.returns-clause-inside
returns-clause-inside c = c.self.invariant.next c.in-Some.net (last_in _ c.in-Some.ensures.items)

pub invariant_of-self : goal.invariant_of-self
invariant_of-self c = next_less _ c.self.invariant c.in_default.ensures.items

pub invariant_of-self-2 : goal.invariant_of-self-2
invariant_of-self-2 c = next_less _ c.self.invariant c.in-Some.ensures.items
