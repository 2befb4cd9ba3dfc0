use Rattle.std.proofs.Common.{◌≡◌, ◌≤◌, vec_len, vec_capacity}
use Rattle.ht_random.specs.Words.{after_words}
use Rattle.ht_random.specs.RandomVectors.{random_vector}
use Rattle.ht_random.proofs.words.Words.vector.Given as goal

abbrev pub invariant-loop-bit : goal.invariant-loop-bit
invariant-loop-bit l = record {
  vector : l.vector.items ≡ random_vector l._bit l.initial.self;
  words : l.self ≡ after_words l._bit l.initial.self;
  count : vec_len l.vector ≡ l._bit;
  room : l.width ≤ vec_capacity l.vector;
}
