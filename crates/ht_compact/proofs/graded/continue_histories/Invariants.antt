use Rattle.std.proofs.Common.{◌≡◌, ◌<◌, ◌≤◌, ℕ, length}
use Rattle.ht_compact.specs.Runs.{AreContinued, runner_at}
use Rattle.ht_compact.proofs.graded.continue_histories.Given as goal

abbrev pub invariant-loop-runner : goal.invariant-loop-runner
invariant-loop-runner l = record {
  few : length l.rest.items ≤ length l.fn.runners.items;
  same : (j : ℕ) → j < length l.rest.items → runner_at l.rest.items j ≡ runner_at l.fn.runners.items j;
  done : AreContinued l.fn.runners.items l.from (length l.rest.items) l.initial.histories l.histories;
}

abbrev pub decreases-loop-runner : goal.decreases-loop-runner
decreases-loop-runner l = length l.rest.items
