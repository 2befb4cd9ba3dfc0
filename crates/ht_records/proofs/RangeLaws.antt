-- The items that the numbers of a range give, one number after the other.
use Rattle.std.specs.Prelude.{flat_map}
use Rattle.std.specs.List.{range_with_len}
use Rattle.std.proofs.Common.{◌≡◌, ◌<◌, ◌≤◌, ◌+◌, ◌-◌, ◌++◌, ℕ, suc, List, [], sym, ◌∙◌, ap, arith}
use Rattle.std.proofs.lemmas.List.{append_assoc, append-nil}

module _ {X : Type 0} (f : ℕ → List X) (n bound : ℕ) where
  -- what the numbers from n on give, below a bound
  range_at : n < bound → flat_map f (range_with_len n (bound - n))
      ≡ f n ++ flat_map f (range_with_len (n + 1) (bound - (n + 1)))
  range_at inside =
      let one : bound - n ≡ suc (bound - (n + 1)) = omega (arith, inside) in
      ap (λ (k : ℕ). flat_map f (range_with_len n k)) one

  -- a number that gives some items
  pub range_more : (done new all : List X) → n < bound → f n ≡ new
      → done ++ flat_map f (range_with_len n (bound - n)) ≡ all
      → (done ++ new) ++ flat_map f (range_with_len (n + 1) (bound - (n + 1))) ≡ all
  range_more done new all inside gives is =
      let rest = flat_map f (range_with_len (n + 1) (bound - (n + 1))) in
      append_assoc done new rest
      ∙ (ap (λ (xs : List X). done ++ xs) (sym (range_at inside ∙ ap (λ (xs : List X). xs ++ rest) gives)) ∙ is)

  -- a number that gives none
  pub range_skip : (done all : List X) → n < bound → f n ≡ []
      → done ++ flat_map f (range_with_len n (bound - n)) ≡ all
      → done ++ flat_map f (range_with_len (n + 1) (bound - (n + 1))) ≡ all
  range_skip done all inside none is =
      let rest = flat_map f (range_with_len (n + 1) (bound - (n + 1))) in
      ap (λ (xs : List X). done ++ xs) (sym (range_at inside ∙ ap (λ (xs : List X). xs ++ rest) none)) ∙ is

  -- no number is left
  pub range_end : (done all : List X) → bound ≤ n → done ++ flat_map f (range_with_len n (bound - n)) ≡ all → done ≡ all
  range_end done all past is =
      let none : 0 ≡ bound - n = omega (arith, past) in
      sym (append-nil done) ∙ (ap (λ (k : ℕ). done ++ flat_map f (range_with_len n k)) none ∙ is)
