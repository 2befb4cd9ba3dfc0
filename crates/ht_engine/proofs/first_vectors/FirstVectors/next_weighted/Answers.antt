use Rattle.std.proofs.Common.{refl}
use Rattle.ht_engine.proofs.FirstVectorsLaws.{weighted_came, weighted_drawn}
use Rattle.ht_engine.proofs.first_vectors.FirstVectors.next_weighted.Goals as goal

pub returns-then-self-clause-next : goal.returns-then-self-clause-next
returns-then-self-clause-next c = (weighted_came c.self.inside c.args.self.now c.self.view_is c.if-self.true, refl)

pub returns-clause-next : goal.returns-clause-next
returns-clause-next c =
    weighted_drawn c.self.inside c.args.self.now c.self.view_is c.if-self.false c.requires.given c.requires.random
    c.self.invariant.bursts c.in_ok-vector.vector.items c.in_ok-vector.ensures.vector
