use Rattle.ht_net.specs.Circuit.LevelWalk.{IsLaterWalk, IsVisited, left_count}
use Rattle.ht_net.proofs.levels.LevelWalk.visit.Given as goal

abbrev pub invariant-loop-gate : goal.invariant-loop-gate
invariant-loop-gate l = record {
  later : IsLaterWalk l.fn.self l.self;
  seen : IsVisited l.self l.root;
}

abbrev pub decreases-loop-gate : goal.decreases-loop-gate
decreases-loop-gate l = left_count l.self
