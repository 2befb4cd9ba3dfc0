use Rattle.std.proofs.Common.{◌≡◌, ◌+◌, []}
use Rattle.ht_relevant.specs.Distances.{AreFollowed, IsLower}
use Rattle.ht_relevant.proofs.spread.spread.Given as goal

abbrev pub invariant-loop-distance : goal.invariant-loop-distance
invariant-loop-distance l = record {
  lower : IsLower l.fn.distances l.distances;
  at : l.distances.distance + 1 ≡ l.distance;
  none : l.distances.here ≡ [];
  followed : AreFollowed l.frame_plan.circuit l.way l.distances.distance l.distances;
}
