use Rattle.std.proofs.Common.{◌≡◌, take}
use Rattle.std.specs.List.{count_by}
use Rattle.ht_proofs.specs.LaneGrades.{grade_at, holds_good}
use Rattle.ht_proofs.proofs.frame_grader.count_holders.Given as goal

abbrev pub invariant-loop-i : goal.invariant-loop-i
invariant-loop-i l = l.count ≡ count_by (λ k. holds_good (grade_at l.grades k)) (take l.i-index l.numbers)
