use Rattle.ht_breed.specs.Bursts.{IsBurst}
use Rattle.ht_breed.proofs.breeding.Breeding.breed.Given as goal

abbrev pub invariant-loop-generation : goal.invariant-loop-generation
invariant-loop-generation l = IsBurst l.width l.most l.best.vectors
