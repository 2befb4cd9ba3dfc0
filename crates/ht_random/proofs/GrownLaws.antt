-- A list that grows by a member at a time, each known by its place.
use Rattle.std.proofs.Common.{◌≡◌, ◌<◌, ◌+◌, ℕ, zero, suc, List, [], ◌∷◌, ◌++◌, length, get_or, ◌∙◌, ap, inl, inr, arith, length-append}
use Rattle.std.proofs.lemmas.Bool.{cases_lt}
use Rattle.std.proofs.lemmas.Grind.{common_steps}
use Rattle.std.proofs.lemmas.List.{get_or_append_left, get_or_push}

-- The first k members, for every k.
pub record Grows {X : Type 0} (member : ℕ → X) (grown : ℕ → List X) : Type 0 where
  pub none : grown 0 ≡ []
  pub more : (k : ℕ) → grown (suc k) ≡ grown k ++ member k ∷ []

-- how many there are
pub grown_count : {X : Type 0} → (member : ℕ → X) (grown : ℕ → List X) → Grows member grown → (k : ℕ)
    → length (grown k) ≡ k
grown_count member grown g zero = ap length g.none
grown_count member grown g (suc k) =
    let before = grown_count member grown g k in
    let long = ap length (g.more k) in
    grind (arith, common_steps, length-append, before, long)

-- each by its number from 0
pub grown_at : {X : Type 0} → (member : ℕ → X) (grown : ℕ → List X) → Grows member grown → (blank : X) (k j : ℕ)
    → j < k → get_or (grown k) j blank ≡ member j
grown_at member grown g blank zero j l = absurd (omega (arith, l))
grown_at member grown g blank (suc k) j l =
    let count = grown_count member grown g k in
    ap (λ xs. get_or xs j blank) (g.more k) ∙ elim (cases_lt j k) [
      | inl under ↦ get_or_append_left (grown k) (member k ∷ []) blank j (omega (arith, under, count))
          ∙ grown_at member grown g blank k j under
      | inr from ↦
          let at : k ≡ j = omega (arith, from, l) in
          get_or_push (grown k) (member k) blank j (count ∙ at) ∙ ap member at
    ]
