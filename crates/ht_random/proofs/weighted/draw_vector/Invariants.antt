use Rattle.std.proofs.Common.{◌≡◌, length, take}
use Rattle.ht_random.specs.Words.{after_words}
use Rattle.ht_random.specs.WeightedVectors.{vector_by}
use Rattle.ht_random.proofs.weighted.draw_vector.Given as goal

abbrev pub invariant-loop-i : goal.invariant-loop-i
invariant-loop-i l = record {
  vector : take l.i l.vector ≡ vector_by l.weights l.i l.initial.words;
  words : l.words ≡ after_words l.i l.initial.words;
  long : length l.vector ≡ length l.initial.vector;
}
