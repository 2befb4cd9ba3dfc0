-- How many LFs a text has.
use Rattle.std.proofs.Common.{◌≡◌, ◌≢◌, inl, inr, ℕ, zero, suc, ◌+◌, ◌<◌, List, [], ◌∷◌, ◌++◌, length, take, cond, refl, arith}
use Rattle.std.specs.Prelude.{◌==◌}
use Rattle.std.proofs.lemmas.List.Sums.{sum_by-append, sum_by-cons}
use Rattle.std.proofs.lemmas.Bool.{cases_eq}
use Rattle.std.proofs.lemmas.Bool.Decides.{nat_tests}
use Rattle.ht_ports.specs.LineRule.{HasNoLf, first_through}
use Rattle.ht_texts.specs.Tests.{lf_count}

-- one for an LF, else nothing
abbrev one_if_lf : ℕ → ℕ
one_if_lf x = cond (x == 10) 1 0

-- two texts joined have the LFs of both
pub lf_count-append : (xs ys : List ℕ) → lf_count (xs ++ ys) ≡ lf_count xs + lf_count ys
lf_count-append xs ys = sum_by-append one_if_lf xs ys

-- a byte in front of a text adds one LF if it is an LF, else none
pub lf_count-cons : (x : ℕ) (xs : List ℕ) → lf_count (x ∷ xs) ≡ one_if_lf x + lf_count xs
lf_count-cons x xs = sum_by-cons one_if_lf x xs

-- bytes without an LF have 0 of them
pub no_lf_count : (piece : List ℕ) → HasNoLf piece → lf_count piece ≡ 0
no_lf_count [] none = refl
no_lf_count (x ∷ piece) none =
    let rest = no_lf_count piece (λ k lt. none (suc k) (omega arith)) in
    let here : x ≢ 10 = none 0 (omega arith) in
    let cons : lf_count (x ∷ piece) ≡ one_if_lf x + lf_count piece = lf_count-cons x piece in
    grind (arith, nat_tests)

-- before the end of the first line there is no LF
pub lf_count-take : (rest : List ℕ) (k : ℕ) → k < length (first_through rest) → lf_count (take k rest) ≡ 0
lf_count-take [] k lt = absurd (omega arith)
lf_count-take (x ∷ rest) zero lt = refl
lf_count-take (x ∷ rest) (suc k) lt = elim (cases_eq x 10) [
  | inl lf ↦ let one : length (first_through (x ∷ rest)) ≡ 1 = grind (arith, nat_tests)
      in absurd (omega (arith, lt, one))
  | inr other ↦
      let more : length (first_through (x ∷ rest)) ≡ suc (length (first_through rest)) = grind (arith, nat_tests) in
      let later = lf_count-take rest k (omega (arith, lt, more)) in
      let cons : lf_count (x ∷ take k rest) ≡ one_if_lf x + lf_count (take k rest) = lf_count-cons x (take k rest) in
      grind (arith, nat_tests)
]
