use Rattle.std.proofs.Common.{◌≡◌, length, take}
use Rattle.ht_random.specs.Words.{after_words}
use Rattle.ht_random.specs.WeightedVectors.{drawn_weights}
use Rattle.ht_random.proofs.weighted.draw_weights.Given as goal

abbrev pub invariant-loop-i : goal.invariant-loop-i
invariant-loop-i l = record {
  weights : take l.i l.weights ≡ drawn_weights l.i l.initial.words;
  words : l.words ≡ after_words l.i l.initial.words;
  long : length l.weights ≡ length l.initial.weights;
}
