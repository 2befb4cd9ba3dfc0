-- Laws of random words and vectors.
use Rattle.std.proofs.Common.{◌≡◌, ◌<◌, ℕ, zero, suc, [], ◌+◌, length, get_or, refl, add-one, arith, length-append}
use Rattle.std.proofs.lemmas.Grind.{common_steps}
use Rattle.rand_pcg.specs.Lcg.{Lcg}
use Rattle.ht_random.specs.Words.{after_word, after_words}
use Rattle.ht_random.specs.RandomVectors.{random_vector, generator_after, random_vectors}
use Rattle.ht_random.proofs.GrownLaws.{Grows, grown_count, grown_at}

-- one word more
pub after_words_more : (n : ℕ) (g : Lcg) → after_words (n + 1) g ≡ after_word (after_words n g)
after_words_more n g = rw add-one refl

-- one vector more
pub generator_after_more : (n k seed : ℕ) → generator_after n (k + 1) seed ≡ after_words n (generator_after n k seed)
generator_after_more n k seed = rw add-one refl

-- how many bits and vectors there are
pub random_vector_length : (n : ℕ) (g : Lcg) → length (random_vector n g) ≡ n
random_vector_length zero g = refl
random_vector_length (suc n) g =
    let before = random_vector_length n g in
    grind (arith, common_steps, length-append, before)

random_vectors_grow : (n seed : ℕ) → Grows (λ k. random_vector n (generator_after n k seed))
    (λ k. random_vectors n k seed)
random_vectors_grow n seed = record { none = refl; more = λ k. refl }

-- the list of the first k random vectors has k members
pub random_vectors_count : (n k seed : ℕ) → length (random_vectors n k seed) ≡ k
random_vectors_count n k seed = grown_count _ _ (random_vectors_grow n seed) k

-- each of the first k vectors by its number from 0
pub random_vector_at : (n k seed j : ℕ) → j < k
    → get_or (random_vectors n k seed) j [] ≡ random_vector n (generator_after n j seed)
random_vector_at n k seed j l = grown_at _ _ (random_vectors_grow n seed) [] k j l
