use Rattle.std.proofs.Common.{◌-◌, length}
use Rattle.std.specs.List.{All}
use Rattle.ht_events.specs.declared.schedule.Schedule.{Schedule}
use Rattle.ht_events.specs.Schedules.{IsSchedule}
use Rattle.ht_recompute.specs.NetSetsOf.{AreNetSets}
use Rattle.ht_recompute.proofs.kept_frames.make_frames.Given as goal

abbrev pub invariant-loop-alloc : goal.invariant-loop-alloc
invariant-loop-alloc l = (s : Schedule) → IsSchedule l.circuit s
    → All (AreNetSets l.circuit s) l.fn.sets.items → All (AreNetSets l.circuit s) l.sets.items

abbrev pub decreases-loop-alloc : goal.decreases-loop-alloc
decreases-loop-alloc l = l.count - length l.sets.items
