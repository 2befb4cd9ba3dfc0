use Rattle.std.proofs.Common.{refl}
use Rattle.ht_engine.proofs.FirstVectorsLaws.{random_came, random_drawn}
use Rattle.ht_engine.proofs.first_vectors.FirstVectors.next_random.Goals as goal

pub returns-then-self-clause-next : goal.returns-then-self-clause-next
returns-then-self-clause-next c = (random_came c.self.inside c.args.self.now c.self.view_is c.if-self.true, refl)

pub returns-clause-next : goal.returns-clause-next
returns-clause-next c =
    random_drawn c.self.inside c.args.self.now c.self.view_is c.if-self.false c.requires c.self.invariant.words
    c.in_ok-vector.vector.items c.in_ok-vector.ensures.vector
