-- The faults that are their own representative.
use Rattle.std.proofs.Common.{◌≡◌, ◌≢◌, ◌<◌, ◌≤◌, ◌+◌, ℕ, zero, suc, List, [], ◌∷◌, ◌++◌, Bool, true, false, cond, length, get_or, refl, ◌∙◌, ap, subst, arith}
use Rattle.std.specs.List.{All, filter, range_with_len}
use Rattle.std.proofs.lemmas.Bool.{eq-eqb, ne_eqb}
use Rattle.std.proofs.lemmas.List.{append-nil}
use Rattle.std.proofs.lemmas.List.Elements.{filter-append, All-filter}
use Rattle.std.proofs.lemmas.List.FromFn.{length-range_with_len, get_or-range_with_len}
use Rattle.std.proofs.lemmas.List.Sums.{length-filter, count_by-le-length}
use Rattle.ht_faults.specs.Classes.{is_representative, own_representatives}
use Rattle.ht_faults.proofs.SiteLaws.{range_more}

filter_more : (p : ℕ → Bool) (n : ℕ)
    → filter p (range_with_len 0 (n + 1)) ≡ filter p (range_with_len 0 n) ++ filter p (n ∷ [])
filter_more p n = ap (filter p) (range_more n) ∙ filter-append p (range_with_len 0 n) (n ∷ [])

-- it is one of them where it is its own representative
pub own_more : (representatives : List ℕ) (n : ℕ) → get_or representatives n 0 ≡ n
    → filter (is_representative representatives) (range_with_len 0 (n + 1))
    ≡ filter (is_representative representatives) (range_with_len 0 n) ++ n ∷ []
own_more representatives n is =
    let p = is_representative representatives in
    let passes : p n ≡ true = eq-eqb (get_or representatives n 0) n is in
    let one : filter p (n ∷ []) ≡ n ∷ [] = rw passes refl in
    filter_more p n ∙ ap (λ l. filter p (range_with_len 0 n) ++ l) one

-- a fault that isn't its own representative adds none to those that are
pub own_same : (representatives : List ℕ) (n : ℕ) → get_or representatives n 0 ≢ n
    → filter (is_representative representatives) (range_with_len 0 (n + 1))
    ≡ filter (is_representative representatives) (range_with_len 0 n)
own_same representatives n other =
    let p = is_representative representatives in
    let fails : p n ≡ false = ne_eqb (get_or representatives n 0) n other in
    let none : filter p (n ∷ []) ≡ [] = rw fails refl in
    filter_more p n ∙ ap (λ l. filter p (range_with_len 0 n) ++ l) none ∙ append-nil (filter p (range_with_len 0 n))

-- each is a fault
pub own_is_fault : (representatives : List ℕ) (k : ℕ) → k < length (own_representatives representatives)
    → get_or (own_representatives representatives) k 0 < length representatives
own_is_fault representatives k inside =
    let n : ℕ = length representatives in
    let below : All (λ x. x < n) (range_with_len 0 n) = λ i d less.
    let there = length-range_with_len 0 n in
    let is = get_or-range_with_len 0 n i d (omega arith) in
    omega arith in
    All-filter (is_representative representatives) (λ x. x < n) (range_with_len 0 n) below k 0 inside

-- the same of a list that is read item by item
pub own_below : (representatives own : List ℕ) (k n : ℕ) → own ≡ own_representatives representatives → k < length own
    → n ≡ length representatives → get_or own k 0 < n
own_below representatives own k n is inside long =
    let there : k < length (own_representatives representatives) = subst (λ (l : List ℕ). k < length l) is inside in
    omega (arith, ap (λ (l : List ℕ). get_or l k 0) is, own_is_fault representatives k there, long)

-- there are no more of them than faults
pub own_within : (representatives : List ℕ) → length (own_representatives representatives) ≤ length representatives
own_within representatives =
    let p = is_representative representatives in
    let n : ℕ = length representatives in
    omega (
      arith,
      length-filter p (range_with_len 0 n),
      count_by-le-length p (range_with_len 0 n),
      length-range_with_len 0 n,
    )

-- ---- each representative is one of them

-- what passes of a list stands in the list of what passes
filter_keeps : (p : ℕ → Bool) (xs : List ℕ) (i : ℕ) → i < length xs → p (get_or xs i 0) ≡ true
    → (k : ℕ) × (k < length (filter p xs)) × (get_or (filter p xs) k 0 ≡ get_or xs i 0)
filter_keeps p [] i inside passes = absurd (omega arith)
filter_keeps p (x ∷ xs) zero inside passes = rw passes (0, omega arith, refl)
filter_keeps p (x ∷ xs) (suc i) inside passes = by (p x) (filter_keeps p xs i (omega arith) passes)
  where
    by : (b : Bool) → (k : ℕ) × (k < length (filter p xs)) × (get_or (filter p xs) k 0 ≡ get_or xs i 0)
        → (k : ℕ) × (k < length (cond b (x ∷ filter p xs) (filter p xs)))
        × (get_or (cond b (x ∷ filter p xs) (filter p xs)) k 0 ≡ get_or xs i 0)
    by true (k, found, is) = (suc k, omega arith, is)
    by false found = found

-- a fault that is its own representative is at some index of the list of these
pub representative_is_own : (representatives : List ℕ) (i : ℕ) → i < length representatives
    → is_representative representatives i ≡ true
    → (k : ℕ) × (k < length (own_representatives representatives))
    × (get_or (own_representatives representatives) k 0 ≡ i)
representative_is_own representatives i inside is =
    let n : ℕ = length representatives in
    let nth = get_or-range_with_len 0 n i 0 inside in
    let at : get_or (range_with_len 0 n) i 0 ≡ i = omega arith in
    let found = filter_keeps (is_representative representatives) (range_with_len 0 n) i
    (omega (arith, inside, length-range_with_len 0 n)) (ap (is_representative representatives) at ∙ is) in
    (found.0, found.1, found.2 ∙ at)
