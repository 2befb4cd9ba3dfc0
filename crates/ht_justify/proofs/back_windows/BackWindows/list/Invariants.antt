use Rattle.std.proofs.Common.{◌≡◌, ◌∷◌, drop, reverse}
use Rattle.ht_justify.proofs.StackLaws.{vectors_back}
use Rattle.ht_justify.proofs.back_windows.BackWindows.list.Given as goal

abbrev pub invariant-loop-k : goal.invariant-loop-k
invariant-loop-k l = l.list ≡ record {
  width = l.self.first.circuit.inputs;
  list = vectors_back l.self.first.circuit (l.self.decisions ∷ reverse (drop l.k l.self.above));
}
