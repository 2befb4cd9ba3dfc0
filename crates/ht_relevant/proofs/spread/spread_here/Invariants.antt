use Rattle.ht_relevant.specs.Distances.{left_to_do}
use Rattle.ht_relevant.proofs.SpreadLaws.{IsSpreading}
use Rattle.ht_relevant.proofs.spread.spread_here.Given as goal

abbrev pub invariant-spread : goal.invariant-spread
invariant-spread l = IsSpreading l.frame_plan.circuit l.way l.fn.distances l.distances

abbrev pub decreases-spread : goal.decreases-spread
decreases-spread l = left_to_do l.distances
