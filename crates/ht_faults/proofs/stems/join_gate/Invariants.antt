use Rattle.std.proofs.Common.{◌<◌, ℕ}
use Rattle.ht_faults.specs.Leaders.{StayInClass, PinJoins, OthersStay}
use Rattle.ht_faults.proofs.stems.join_gate.Given as goal

abbrev pub invariant-loop-i : goal.invariant-loop-i
invariant-loop-i l = record {
  stays : StayInClass l.circuit l.leaders;
  joins : (k : ℕ) → k < l.i → PinJoins l.circuit l.leaders l.g k;
  others : OthersStay l.circuit l.fn.leaders l.leaders l.g;
}
