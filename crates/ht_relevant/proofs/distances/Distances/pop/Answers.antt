use Rattle.ht_relevant.proofs.DistanceLaws.{last_in, here_inside, here_less}
use Rattle.ht_relevant.proofs.distances.Distances.pop.Goals as goal

pub returns-clause-inside : goal.returns-clause-inside
returns-clause-inside c = here_inside c.self.invariant (last_in _ c.in-Some.ensures.items)

pub invariant_of-self : goal.invariant_of-self
invariant_of-self c = here_less _ c.self.invariant c.in_default.ensures.items

pub invariant_of-self-2 : goal.invariant_of-self-2
invariant_of-self-2 c = here_less _ c.self.invariant c.in-Some.ensures.items
