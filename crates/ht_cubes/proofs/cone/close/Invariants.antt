use Rattle.ht_cubes.specs.Cones.{HaveGrown, unmarked_count}
use Rattle.ht_cubes.proofs.cone.close.Given as goal

abbrev pub invariant-rounds : goal.invariant-rounds
invariant-rounds l = HaveGrown l.circuit l.initial.marks l.marks

abbrev pub decreases-rounds : goal.decreases-rounds
decreases-rounds l = unmarked_count l.marks
