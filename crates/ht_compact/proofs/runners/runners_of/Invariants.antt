use Rattle.std.proofs.Common.{◌≡◌, ◌<◌, [], ℕ, length, get_or}
use Rattle.ht_compact.specs.Runs.{runner_at}
use Rattle.ht_compact.proofs.runners.runners_of.Given as goal

abbrev pub invariant-loop-k : goal.invariant-loop-k
invariant-loop-k l = record {
  every : length l.runners.items ≡ l.k-index;
  each : (j : ℕ) → j < l.k-index → runner_at l.runners.items j ≡ record {
    place = get_or l.places j 0;
    log = [];
    rest = length (get_or l.histories (get_or l.places j 0) []);
  };
}
