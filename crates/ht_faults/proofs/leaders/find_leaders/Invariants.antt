use Rattle.std.proofs.Common.{◌≡◌, ◌<◌, ℕ, length, get_or}
use Rattle.ht_faults.specs.Classes.{fault_at}
use Rattle.ht_faults.specs.Leaders.{leader_by}
use Rattle.ht_faults.proofs.leaders.find_leaders.Given as goal

abbrev pub invariant-loop-i : goal.invariant-loop-i
invariant-loop-i l = record {
  long : length l.leaders.items ≡ l.i;
  united : (k : ℕ) → k < l.i → get_or l.leaders.items k 0
      ≡ leader_by l.circuit l.stem_leaders.items k (fault_at l.circuit k).site
      (fault_at l.circuit k).value;
}
