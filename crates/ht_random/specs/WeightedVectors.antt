-- The weighted vectors that are drawn from a seed, in bursts: a burst draws a weight for each input, and then its
-- vectors.
use Rattle.std.specs.Prelude.{ℕ, zero, suc, ◌%◌, ◌/◌, List, [], ◌∷◌, ◌++◌, Bool, nat_lt, get_or}
use Rattle.rand_pcg.specs.Lcg.{Lcg}
use Rattle.ht_random.specs.Words.{generator_of, next_word, after_words}

-- a burst has so many vectors
abbrev pub burst_length : ℕ
burst_length = 200

-- weight k: of 256 words that differ in their lowest byte so many make an input 1
abbrev pub weight_numbered : ℕ → ℕ
weight_numbered k = get_or (5 ∷ 26 ∷ 128 ∷ 230 ∷ 251 ∷ []) k 0

-- the weights of n inputs: one word for each input in order
abbrev pub drawn_weights : ℕ → Lcg → List ℕ
drawn_weights zero g = []
drawn_weights (suc n) g = drawn_weights n g
    ++ weight_numbered (next_word (after_words n g) % 5) ∷ []

-- the next vector of n bits: one word for each input in order, and the input is 1 exactly where the lowest byte of its
-- word is below its weight
abbrev pub vector_by : List ℕ → ℕ → Lcg → List Bool
vector_by weights zero g = []
vector_by weights (suc n) g =
    vector_by weights n g ++ nat_lt (next_word (after_words n g) % 256) (get_or weights n 0) ∷ []

-- the generator after the weights and m vectors of a burst that began at g
unfoldable pub in_burst : ℕ → ℕ → Lcg → Lcg
in_burst n zero g = after_words n g
in_burst n (suc m) g = after_words n (in_burst n m g)

-- the generator of a seed where burst b begins
unfoldable pub burst_start : ℕ → ℕ → ℕ → Lcg
burst_start n zero seed = generator_of seed
burst_start n (suc b) seed = in_burst n burst_length (burst_start n b seed)

-- Vector k of n bits, from 0, that is drawn from a seed: vector k % 200 of burst k / 200.
unfoldable pub weighted_vector : ℕ → ℕ → ℕ → List Bool
weighted_vector n k seed = vector_by (drawn_weights n (burst_start n (k / burst_length) seed)) n
    (in_burst n (k % burst_length) (burst_start n (k / burst_length) seed))

-- the first k vectors of n bits
abbrev pub weighted_vectors : ℕ → ℕ → ℕ → List (List Bool)
weighted_vectors n zero seed = []
weighted_vectors n (suc k) seed = weighted_vectors n k seed ++ weighted_vector n k seed ∷ []
