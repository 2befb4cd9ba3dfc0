use Rattle.std.proofs.Common.{◌≡◌, ◌<◌, [], ℕ, None, length, get_or}
use Rattle.ht_proofs.specs.LaneGrades.{grade_at}
use Rattle.ht_compact.proofs.runners.grades_of.Given as goal

abbrev pub invariant-loop-k : goal.invariant-loop-k
invariant-loop-k l = record {
  every : length l.grades.items ≡ l.k-index;
  each : (j : ℕ) → j < l.k-index → grade_at l.grades.items j ≡ record {
    verdict = None;
    diffs = get_or (get_or l.histories (get_or l.places j 0) []) l.from [];
  };
}
