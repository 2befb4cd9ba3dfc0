-- Laws of weighted vectors: how many bits and vectors there are, and how the generator goes on from one vector to the
-- next.
use Rattle.std.proofs.Common.{◌≡◌, ◌≢◌, ◌<◌, ◌+◌, ◌%◌, ◌/◌, ℕ, zero, suc, List, [], length, get_or, refl, sym, ◌∙◌, ap, inl, inr, arith, length-append}
use Rattle.std.proofs.lemmas.Bool.Decides.{eqb_tells}
use Rattle.std.proofs.lemmas.Grind.{common_steps}
use Rattle.rand_pcg.specs.Lcg.{Lcg}
use Rattle.ht_random.specs.Words.{after_words}
use Rattle.ht_random.specs.WeightedVectors.{burst_length, burst_start, drawn_weights, in_burst, vector_by, weighted_vector, weighted_vectors}
use Rattle.ht_random.specs.WeightedOf.{WordsGoOnAt}
use Rattle.ht_random.proofs.GrownLaws.{Grows, grown_count, grown_at}

-- how many bits and vectors there are
vector_by_length : (weights : List ℕ) (n : ℕ) (g : Lcg) → length (vector_by weights n g) ≡ n
vector_by_length weights zero g = refl
vector_by_length weights (suc n) g =
    let before = vector_by_length weights n g in
    grind (arith, common_steps, length-append, before)

-- a weighted vector for n inputs has n bits
pub weighted_vector_length : (n k seed : ℕ) → length (weighted_vector n k seed) ≡ n
unfolding weighted_vector
weighted_vector_length n k seed = vector_by_length (drawn_weights n (burst_start n (k / burst_length) seed)) n
    (in_burst n (k % burst_length) (burst_start n (k / burst_length) seed))

weighted_vectors_grow : (n seed : ℕ) → Grows (λ k. weighted_vector n k seed) (λ k. weighted_vectors n k seed)
weighted_vectors_grow n seed = record { none = refl; more = λ k. refl }

-- the list of the first k weighted vectors has k members
pub weighted_vectors_count : (n k seed : ℕ) → length (weighted_vectors n k seed) ≡ k
weighted_vectors_count n k seed = grown_count _ _ (weighted_vectors_grow n seed) k

-- each of the first k vectors by its number from 0
pub weighted_vector_at : (n k seed j : ℕ) → j < k → get_or (weighted_vectors n k seed) j [] ≡ weighted_vector n j seed
weighted_vector_at n k seed j l = grown_at _ _ (weighted_vectors_grow n seed) [] k j l

-- the weights of a burst are drawn first
pub burst_begins : (n : ℕ) (g : Lcg) → in_burst n 0 g ≡ after_words n g
unfolding in_burst
burst_begins n g = refl

-- one vector more in a burst
pub burst_goes_on : (n m : ℕ) (g : Lcg) → after_words n (in_burst n m g) ≡ in_burst n (suc m) g
unfolding in_burst
burst_goes_on n m g = refl

-- after its last vector the next burst begins
pub burst_ends : (n b seed : ℕ) → in_burst n burst_length (burst_start n b seed) ≡ burst_start n (suc b) seed
unfolding burst_start
burst_ends n b seed = refl

-- the place in a burst of the vector after vector k: the next one, or the first of the next burst
place_after : (k : ℕ) → (k + 1) % burst_length ≢ 0
    → ((k + 1) % burst_length ≡ suc (k % burst_length)) × ((k + 1) / burst_length ≡ k / burst_length)
place_after k ne = (omega (arith, ne), omega (arith, ne))

burst_after : (k : ℕ) → (k + 1) % burst_length ≡ 0
    → (suc (k % burst_length) ≡ burst_length) × ((k + 1) / burst_length ≡ suc (k / burst_length))
burst_after k e = (omega (arith, e), omega (arith, e))

module _ (n k seed : ℕ) where
  -- the generator where the burst of vector k begins, and before the words of the vector itself
  abbrev begin : Lcg
  begin = burst_start n (k / burst_length) seed

  abbrev pub before_vector : Lcg
  before_vector = in_burst n (k % burst_length) begin

  abbrev pub kept_weights : List ℕ
  kept_weights = drawn_weights n begin

  -- weights are drawn where a burst begins, and kept in it
  pub begun : (words next : Lcg) (weights drawn : List ℕ) → WordsGoOnAt n k seed words weights
      → (k % burst_length ≡ 0 → (drawn ≡ drawn_weights n words) × (next ≡ after_words n words))
      → (k % burst_length ≢ 0 → (drawn ≡ weights) × (next ≡ words))
      → (drawn ≡ kept_weights) × (next ≡ before_vector)
  begun words next weights drawn stands begins goes_on = elim (eqb_tells (k % burst_length) 0) [
    | inl e ↦
        let first = begins e.1 in (
          first.0 ∙ ap (drawn_weights n) (stands.between e.1),
          first.1 ∙ (ap (after_words n) (stands.between e.1)
              ∙ (sym (burst_begins n begin) ∙ ap (λ (m : ℕ). in_burst n m begin) (sym e.1))),
        )
    | inr e ↦
        let later = goes_on e.1 in (later.0 ∙ stands.weights_are e.1, later.1 ∙ stands.within e.1)
  ]

  -- so it is after the words of the vector
  pub goes_on : (next : Lcg) (weights : List ℕ) → next ≡ after_words n before_vector → weights ≡ kept_weights
      → WordsGoOnAt n (k + 1) seed next weights
  goes_on next weights is kept = record {
    between = λ e.
        let p = burst_after k e in
        is ∙ (burst_goes_on n (k % burst_length) begin ∙ (ap (λ (m : ℕ). in_burst n m begin) p.0
        ∙ (burst_ends n (k / burst_length) seed ∙ ap (λ (b : ℕ). burst_start n b seed) (sym p.1))));
    within = λ ne.
        let p = place_after k ne in
        is ∙ (burst_goes_on n (k % burst_length) begin
        ∙ (λ i. in_burst n (sym p.0 i) (burst_start n (sym p.1 i) seed)));
    weights_are = λ ne.
        let p = place_after k ne in kept ∙ ap (λ (b : ℕ). drawn_weights n (burst_start n b seed)) (sym p.1);
  }
