-- The vectors that are drawn from a seed.
use Rattle.std.specs.Prelude.{ℕ, zero, suc, ◌%◌, ◌==◌, List, [], ◌∷◌, ◌++◌, Bool}
use Rattle.rand_pcg.specs.Lcg.{Lcg}
use Rattle.ht_random.specs.Words.{generator_of, next_word, after_words}

-- A word is odd.
abbrev pub is_odd : ℕ → Bool
is_odd word = word % 2 == 1

-- The next vector of n bits: one word for each input in order, and the input is 1 exactly where the word is odd.
abbrev pub random_vector : ℕ → Lcg → List Bool
random_vector zero g = []
random_vector (suc n) g = random_vector n g ++ is_odd (next_word (after_words n g)) ∷ []

-- The generator of a seed after k vectors of n bits.
abbrev pub generator_after : ℕ → ℕ → ℕ → Lcg
generator_after n zero seed = generator_of seed
generator_after n (suc k) seed = after_words n (generator_after n k seed)

-- The first k vectors of n bits that are drawn from a seed.
abbrev pub random_vectors : ℕ → ℕ → ℕ → List (List Bool)
random_vectors n zero seed = []
random_vectors n (suc k) seed = random_vectors n k seed
    ++ random_vector n (generator_after n k seed) ∷ []
