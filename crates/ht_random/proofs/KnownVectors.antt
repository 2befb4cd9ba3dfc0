-- The vectors of some seeds, as the published crates give them.
use Rattle.std.specs.Prelude.{◌≡◌, [], ◌∷◌, true, false, refl}
use Rattle.rand_core.specs.Pcg32Seed.{pcg32_seed}
use Rattle.rand_core.specs.Steps.{u32_at, word_bytes}
use Rattle.ht_random.specs.Words.{generator_of, next_word, after_word}
use Rattle.ht_random.specs.RandomVectors.{random_vectors}
use Rattle.ht_random.specs.WeightedVectors.{weighted_vector, weighted_vectors, burst_start, in_burst}

vectors_of_seed_7 : random_vectors 4 3 7
    ≡ (true ∷ false ∷ true ∷ false ∷ []) ∷ (false ∷ true ∷ false ∷ false ∷ [])
    ∷ (true ∷ false ∷ false ∷ false ∷ []) ∷ []
unfolding generator_of next_word after_word pcg32_seed u32_at word_bytes
vectors_of_seed_7 = refl

vectors_of_seed_0 : random_vectors 3 2 0 ≡ (true ∷ true ∷ true ∷ []) ∷ (false ∷ true ∷ true ∷ []) ∷ []
unfolding generator_of next_word after_word pcg32_seed u32_at word_bytes
vectors_of_seed_0 = refl

weighted_vectors_of_seed_1 : weighted_vectors 1 3 1 ≡ (true ∷ []) ∷ (true ∷ []) ∷ (true ∷ []) ∷ []
unfolding weighted_vector burst_start in_burst generator_of next_word after_word pcg32_seed u32_at word_bytes
weighted_vectors_of_seed_1 = refl

weighted_vectors_of_seed_7 : weighted_vectors 4 3 7
    ≡ (false ∷ false ∷ false ∷ true ∷ []) ∷ (true ∷ true ∷ false ∷ true ∷ [])
    ∷ (false ∷ false ∷ false ∷ true ∷ []) ∷ []
unfolding weighted_vector burst_start in_burst generator_of next_word after_word pcg32_seed u32_at word_bytes
weighted_vectors_of_seed_7 = refl
