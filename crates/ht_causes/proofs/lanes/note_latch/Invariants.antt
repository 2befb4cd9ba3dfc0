use Rattle.ht_lanes.specs.Lanes.{lane}
use Rattle.ht_causes.specs.Tracks.{latch_kept}
use Rattle.ht_causes.proofs.NotedLaws.{AreNotedBut}
use Rattle.ht_causes.proofs.lanes.note_latch.Given as goal

abbrev pub invariant-loop-rest : goal.invariant-loop-rest
invariant-loop-rest l =
    AreNotedBut l.from l.count l.rest (λ k. latch_kept l.place l.good (lane l.word k)) l.initial.tracks l.tracks

abbrev pub decreases-loop-rest : goal.decreases-loop-rest
decreases-loop-rest l = l.rest
