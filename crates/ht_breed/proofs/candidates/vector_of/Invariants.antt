use Rattle.std.proofs.Common.{◌≡◌, length}
use Rattle.ht_breed.proofs.candidates.vector_of.Given as goal

abbrev pub invariant-loop-input : goal.invariant-loop-input
invariant-loop-input l = length l.vector.items ≡ l.input
