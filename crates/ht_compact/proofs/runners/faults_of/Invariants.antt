use Rattle.std.proofs.Common.{◌≡◌, ◌<◌, ℕ, length, get_or}
use Rattle.std.specs.List.{slice_get}
use Rattle.ht_compact.proofs.runners.faults_of.Given as goal

abbrev pub invariant-loop-k : goal.invariant-loop-k
invariant-loop-k l = record {
  every : length l.chosen.items ≡ l.k-index;
  each : (j : ℕ) → j < l.k-index → slice_get l.chosen.items j ≡ slice_get l.faults (get_or l.places j 0);
}
