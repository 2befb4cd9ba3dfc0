-- Drawing the first vectors one by one.
use Rattle.std.proofs.Common.{◌≡◌, ◌<◌, ◌≤◌, ◌+◌, ◌++◌, ◌∷◌, ℕ, List, [], Bool, length, drop, get_or, refl, arith, ap, sym, ◌∙◌, subst}
use Rattle.std.proofs.lemmas.List.{drop_all, drop_more}
use Rattle.ht_random.specs.RandomVectors.{generator_after, random_vector, random_vectors}
use Rattle.ht_random.specs.WeightedOf.{Drawn}
use Rattle.ht_random.specs.WeightedVectors.{weighted_vector, weighted_vectors}
use Rattle.ht_random.proofs.RandomVectorLaws.{random_vector_at, random_vector_length, random_vectors_count}
use Rattle.ht_random.proofs.WeightedLaws.{weighted_vector_at, weighted_vector_length, weighted_vectors_count}
use Rattle.ht_engine.specs.FirstVectors.{Draws, FirstView}
use Rattle.ht_engine.specs.FirstVectorsOf.{first_of_fields}
use Rattle.ht_engine.specs.declared.first_vectors.FirstVectors.TheInside.{Inside}

-- ---- what is left of some vectors after so many of them

next_left : (all : List (List Bool)) (count k : ℕ) → length all ≡ count → k < count → (vector : List Bool)
    → get_or all k [] ≡ vector → drop k all ≡ vector ∷ drop (k + 1) all
next_left all count k long there vector at =
    drop_more all k [] (omega (arith, there, long)) ∙ ap (λ (x : List Bool). x ∷ drop (k + 1) all) at

none_left : (all : List (List Bool)) (count k : ℕ) → length all ≡ count → count ≤ k → drop k all ≡ []
none_left all count k long over = drop_all k all (omega (arith, over, long))

-- ---- what is left of the first vectors, by their fields

module _ (a : Inside) (now : FirstView) (at : first_of_fields a ≡ now) where
  abbrev v : FirstView
  v = first_of_fields a

  abbrev seed : ℕ
  seed = a.settings.now.seed

  abbrev random : List (List Bool)
  random = random_vectors a.width a.settings.now.random seed

  abbrev weighted : List (List Bool)
  weighted = weighted_vectors a.width a.settings.now.weighted seed

  -- what was drawn by the fields was drawn
  drawn : (vector : List Bool) (new : FirstView) → Draws v vector new → Draws now vector new
  drawn vector new h = subst (λ (x : FirstView). Draws x vector new) at h

  none_given : now.given ≡ [] → v.given ≡ []
  none_given none = ap (λ (x : FirstView). x.given) at ∙ none

  -- the random vectors
  pub random_came : a.settings.now.random ≤ a.random → now.random ≡ []
  random_came over =
      ap (λ (x : FirstView). x.random) (sym at)
      ∙ none_left random a.settings.now.random a.random (random_vectors_count a.width a.settings.now.random seed) over

  -- if no given vector is left and a random one is, the one of the generator's words is drawn next
  pub random_drawn : a.random < a.settings.now.random → now.given ≡ []
      → a.words ≡ generator_after a.width a.random seed → (vector : List Bool) → vector ≡ random_vector a.width a.words
      → Draws now vector (record v { random = drop (a.random + 1) random })
  random_drawn there none words_are vector vector_is =
      let count = a.settings.now.random in
      let left : v.random ≡ vector ∷ drop (a.random + 1) random =
      next_left random count a.random (random_vectors_count a.width count seed) there vector
      (random_vector_at a.width count seed a.random there
      ∙ sym (vector_is ∙ ap (random_vector a.width) words_are)) in
      drawn vector (record v { random = drop (a.random + 1) random })
      (record {
        first = ap (λ (l : List (List Bool)). l ++ v.random ++ v.weighted) (none_given none)
            ∙ ap (λ (l : List (List Bool)). l ++ v.weighted) left
            ∙ ap (λ (l : List (List Bool)). vector ∷ l ++ drop (a.random + 1) random ++ v.weighted)
            (sym (none_given none));
        wide = ap (λ (x : List Bool). length x) vector_is ∙ random_vector_length a.width a.words;
        width = refl;
      })

  -- the weighted vectors
  pub weighted_came : a.settings.now.weighted ≤ a.weighted → now.weighted ≡ []
  weighted_came over =
      ap (λ (x : FirstView). x.weighted) (sym at)
      ∙ none_left weighted a.settings.now.weighted a.weighted
      (weighted_vectors_count a.width a.settings.now.weighted seed) over

  -- if only weighted vectors are left, the one of the seed and the count is drawn next
  pub weighted_drawn : a.weighted < a.settings.now.weighted → now.given ≡ [] → now.random ≡ []
      → a.bursts ≡ record { width = a.width; seed = seed; count = a.weighted } → (vector : List Bool)
      → vector ≡ weighted_vector a.bursts.width a.bursts.count a.bursts.seed
      → Draws now vector (record v { weighted = drop (a.weighted + 1) weighted })
  weighted_drawn there none none' bursts_are vector drawn_is =
      let count = a.settings.now.weighted in
      let no_random : v.random ≡ [] = ap (λ (x : FirstView). x.random) at ∙ none' in
      let vector_is : vector ≡ weighted_vector a.width a.weighted seed =
      drawn_is ∙ ap (λ (d : Drawn). weighted_vector d.width d.count d.seed) bursts_are in
      let left : v.weighted ≡ vector ∷ drop (a.weighted + 1) weighted =
      next_left weighted count a.weighted (weighted_vectors_count a.width count seed) there vector
      (weighted_vector_at a.width count seed a.weighted there ∙ sym vector_is) in
      drawn vector (record v { weighted = drop (a.weighted + 1) weighted })
      (record {
        first = ap (λ (l : List (List Bool)). l ++ v.random ++ v.weighted) (none_given none)
            ∙ ap (λ (l : List (List Bool)). l ++ v.weighted) no_random
            ∙ left
            ∙ ap (λ (l : List (List Bool)). vector ∷ l ++ drop (a.weighted + 1) weighted) (sym no_random)
            ∙ ap (λ (l : List (List Bool)). vector ∷ l ++ v.random ++ drop (a.weighted + 1) weighted)
            (sym (none_given none));
        wide = ap (λ (x : List Bool). length x) vector_is ∙ weighted_vector_length a.width a.weighted seed;
        width = refl;
      })
