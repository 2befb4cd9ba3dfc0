use Rattle.std.proofs.Common.{◌<◌, ◌≤◌, ℕ, length, get_or}
use Rattle.ht_faults.specs.Leaders.{StayInClass, GateJoins}
use Rattle.ht_faults.proofs.stems.stem_leaders.Given as goal

abbrev pub invariant-loop-k : goal.invariant-loop-k
invariant-loop-k l = record {
  stays : StayInClass l.circuit l.leaders.items;
  joins : (j : ℕ) → l.k ≤ j → j < length l.order → GateJoins l.circuit l.leaders.items (get_or l.order j 0);
}
