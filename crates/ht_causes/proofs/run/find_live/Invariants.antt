use Rattle.std.proofs.Common.{◌≡◌, ◌<◌, ℕ, false, length, get_or}
use Rattle.ht_faults.specs.Classes.{is_representative}
use Rattle.ht_causes.proofs.run.find_live.Given as goal

abbrev pub invariant-loop-i : goal.invariant-loop-i
invariant-loop-i l = record {
  count : length l.live.items ≡ l.i;
  each : (k : ℕ) → k < l.i → get_or l.live.items k false ≡ is_representative l.classes k;
}
