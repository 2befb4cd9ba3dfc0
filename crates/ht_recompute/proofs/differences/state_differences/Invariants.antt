use Rattle.std.proofs.Common.{◌≡◌, drop}
use Rattle.ht_recompute.specs.Differences.{in_either, differences_in, outside_marks}
use Rattle.ht_recompute.proofs.differences.state_differences.Given as goal

abbrev pub invariant-loop-j : goal.invariant-loop-j
invariant-loop-j l = in_either l.shown (differences_in (outside_marks (drop l.j l.marks) (drop l.j l.next)))
    ≡ differences_in (outside_marks l.marks l.next)
