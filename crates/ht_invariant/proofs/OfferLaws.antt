-- Candidates that are offered one after the other.
use Rattle.std.proofs.Common.{◌≡◌, ◌+◌, ◌-◌, ◌∙◌, ℕ, suc, zero, List, [], ◌∷◌, ◌++◌, Bool, length, take, refl, sym, ap, arith, append_assoc, length-append}
use Rattle.std.specs.Prelude.{flat_map}
use Rattle.std.specs.List.{filter, range_with_len}
use Rattle.std.proofs.lemmas.List.{append-nil, length-take}
use Rattle.std.proofs.lemmas.List.Elements.{filter-append}
use Rattle.std.proofs.lemmas.List.Concat.{flat_map-append}
use Rattle.ht_tree.specs.declared.clause.Clause.{Clause}
use Rattle.ht_tree.specs.Clause.Invariants.{max_clauses}
use Rattle.ht_invariant.specs.Offers.{offered}
use Rattle.ht_window.proofs.SeenLaws.{range_push}

abbrev empty : (X : Type 0) → List X
empty X = []

take_nil : {X : Type 0} → (n : ℕ) → take n (empty X) ≡ empty X
take_nil zero = refl
take_nil (suc n) = refl

take_append : {X : Type 0} → (n : ℕ) (xs ys : List X) → take n (xs ++ ys) ≡ take n xs ++ take (n - length xs) ys
take_append {X} n [] ys =
    let e : n - 0 ≡ n = omega arith in
    ap (λ (k : ℕ). take k ys) (sym e) ∙ ap (λ (zs : List X). zs ++ take (n - 0) ys) (sym (take_nil {X = X} n))
take_append zero (x ∷ xs) ys = let e : 0 - suc (length xs) ≡ 0 = omega arith in ap (λ (k : ℕ). take k ys) (sym e)
take_append {X} (suc n) (x ∷ xs) ys =
    let e : suc n - suc (length xs) ≡ n - length xs = omega arith in
    ap (λ (zs : List X). x ∷ zs) (take_append n xs ys) ∙ ap (λ (k : ℕ). x ∷ take n xs ++ take k ys) (sym e)

module _ (test : Clause → Bool) (kept : List Clause) where
  -- clauses offered after others are kept as if all were offered at once
  pub offered_more : (xs ys : List Clause) → offered test (offered test kept xs) ys ≡ offered test kept (xs ++ ys)
  offered_more xs ys =
      let room = max_clauses - length kept in
      let first = filter test xs in
      let rest = filter test ys in
      let long = length-append kept (take room first) in
      let taken = length-take room first in
      let left : max_clauses - length (kept ++ take room first) ≡ room - length first = omega (arith, long, taken) in
      append_assoc kept (take room first) (take (max_clauses - length (kept ++ take room first)) rest)
      ∙ ap (λ (zs : List Clause). kept ++ zs)
      (ap (λ (k : ℕ). take room first ++ take k rest) left
      ∙ (sym (take_append room first rest) ∙ ap (take room) (sym (filter-append test xs ys))))

-- one more number of a range
pub flat_range_more : {X : Type 0} → (f : ℕ → List X) (a n : ℕ)
    → flat_map f (range_with_len a (n + 1)) ≡ flat_map f (range_with_len a n) ++ f (a + n)
flat_range_more f a n =
    ap (flat_map f) (range_push a n)
    ∙ (flat_map-append f (range_with_len a n) ((a + n) ∷ [])
    ∙ ap (λ zs. flat_map f (range_with_len a n) ++ zs) (append-nil (f (a + n))))

module _ (test : Clause → Bool) where
  -- four clauses offered one after the other are kept as if all were offered at once
  pub offered_four : (k0 k1 k2 k3 k4 : List Clause) (x1 x2 x3 x4 y1 y2 y3 y4 : Clause)
      → k1 ≡ offered test k0 (x1 ∷ []) → k2 ≡ offered test k1 (x2 ∷ []) → k3 ≡ offered test k2 (x3 ∷ [])
      → k4 ≡ offered test k3 (x4 ∷ []) → x1 ≡ y1 → x2 ≡ y2 → x3 ≡ y3 → x4 ≡ y4
      → k4 ≡ offered test k0 (y1 ∷ y2 ∷ y3 ∷ y4 ∷ [])
  offered_four k0 k1 k2 k3 k4 x1 x2 x3 x4 y1 y2 y3 y4 a1 a2 a3 a4 e1 e2 e3 e4 =
      let b2 : k2 ≡ offered test k0 (x1 ∷ x2 ∷ []) =
      a2 ∙ (ap (λ (k : List Clause). offered test k (x2 ∷ [])) a1 ∙ offered_more test k0 (x1 ∷ []) (x2 ∷ [])) in
      let b3 : k3 ≡ offered test k0 (x1 ∷ x2 ∷ x3 ∷ []) =
      a3 ∙ (ap (λ (k : List Clause). offered test k (x3 ∷ [])) b2 ∙ offered_more test k0 (x1 ∷ x2 ∷ []) (x3 ∷ [])) in
      let b4 : k4 ≡ offered test k0 (x1 ∷ x2 ∷ x3 ∷ x4 ∷ []) =
      a4 ∙ (ap (λ (k : List Clause). offered test k (x4 ∷ [])) b3
      ∙ offered_more test k0 (x1 ∷ x2 ∷ x3 ∷ []) (x4 ∷ [])) in
      b4 ∙ (λ i. offered test k0 (e1 i ∷ e2 i ∷ e3 i ∷ e4 i ∷ []))

  -- the clauses of one more number of a range
  pub offered_range : (start kept more : List Clause) (before : List Clause) (f : ℕ → List Clause) (a n b : ℕ)
      → kept ≡ offered test start (before ++ flat_map f (range_with_len a n)) → more ≡ offered test kept (f b)
      → b ≡ a + n → more ≡ offered test start (before ++ flat_map f (range_with_len a (n + 1)))
  offered_range start kept more before f a n b is next at =
      next
      ∙ ((λ i. offered test (is i) (f (at i)))
      ∙ (offered_more test start (before ++ flat_map f (range_with_len a n)) (f (a + n))
      ∙ ap (offered test start)
      (append_assoc before (flat_map f (range_with_len a n)) (f (a + n))
      ∙ ap (λ (zs : List Clause). before ++ zs) (sym (flat_range_more f a n)))))
