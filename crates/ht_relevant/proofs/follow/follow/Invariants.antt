use Rattle.std.proofs.Common.{◌<◌, ℕ, [], get_or}
use Rattle.ht_relevant.specs.Distances.{HasGrown}
use Rattle.ht_relevant.specs.Offsets.{IsTaken}
use Rattle.ht_relevant.proofs.follow.follow.Given as goal

abbrev pub invariant-loop-offset : goal.invariant-loop-offset
invariant-loop-offset l = record {
  grown : HasGrown l.fn.distances l.distances;
  taken : (k : ℕ) → k < l.offset-index → IsTaken l.frame_plan l.distances
      (get_or (get_or l.frame_plan.readers l.net []) k 0);
}
