-- Lists of items that are filled in turn, 64 each, and the list of all their items.
use Rattle.std.specs.Prelude.{set, flat_map, min}
use Rattle.std.specs.List.{slice_get}
use Rattle.std.proofs.Common.{◌≡◌, ◌<◌, ◌≤◌, ◌+◌, ◌-◌, ◌*◌, ◌∙◌, ℕ, zero, suc, List, [], ◌∷◌, ◌++◌, length, get_or, ap, sym, refl, arith, inl, inr, append_assoc}
use Rattle.std.proofs.lemmas.Bool.{cases_lt}
use Rattle.std.proofs.lemmas.List.{length-append, nil_from_length}
use Rattle.std.proofs.lemmas.Option.{slice_get_past}

slice_left : {B : Type 0} → (xs ys : List B) (k : ℕ) → k < length xs → slice_get (xs ++ ys) k ≡ slice_get xs k
slice_left [] ys k h = absurd (omega arith)
slice_left (x ∷ xs) ys zero h = refl
slice_left (x ∷ xs) ys (suc k) h = slice_left xs ys k (omega arith)

slice_right : {B : Type 0} → (xs ys : List B) (k : ℕ) → slice_get (xs ++ ys) (length xs + k) ≡ slice_get ys k
slice_right [] ys k = let at : 0 + k ≡ k = omega arith in ap (slice_get ys) at
slice_right (x ∷ xs) ys k =
    let at : suc (length xs) + k ≡ suc (length xs + k) = omega arith in
    ap (slice_get (x ∷ (xs ++ ys))) at ∙ slice_right xs ys k

module _ {A B : Type 0} (f : A → List B) where
  -- list w has what is left of n items after those before it, up to 64
  abbrev pub AreFull : ℕ → List A → Type 0
  AreFull n xs = (w : ℕ) (d : A) → w < length xs → length (f (get_or xs w d)) ≡ min 64 (n - 64 * w)

  rest_full : (n : ℕ) (x : A) (xs : List A) → AreFull n (x ∷ xs) → AreFull (n - 64) xs
  rest_full n x xs full w d inside =
      let same : min 64 (n - 64 * suc w) ≡ min 64 (n - 64 - 64 * w) = omega arith in
      full (suc w) d (omega arith) ∙ same

  first_full : (n : ℕ) (x : A) (xs : List A) → AreFull n (x ∷ xs) → length (f x) ≡ min 64 n
  first_full n x xs full =
      let same : min 64 (n - 64 * 0) ≡ min 64 n = omega arith in
      full 0 x (omega arith) ∙ same

  -- lists that are filled with n items have n in all
  pub all_count : (xs : List A) (n : ℕ) → n ≤ 64 * length xs → AreFull n xs → length (flat_map f xs) ≡ n
  all_count [] n few full = omega arith
  all_count (x ∷ xs) n few full =
      let rest = all_count xs (n - 64) (omega arith) (rest_full n x xs full) in
      let first = first_full n x xs full in
      let both = length-append (f x) (flat_map f xs) in
      omega (arith, rest, first, both)

  -- lists that are filled with no items have none in all
  pub none_left : (xs : List A) (n : ℕ) → n ≡ 0 → AreFull n xs → flat_map f xs ≡ []
  none_left xs n none full = nil_from_length (flat_map f xs) (all_count xs n (omega arith) full ∙ none)

  -- item 64 * w + k of all is item k of list w
  pub item_at : (xs : List A) (n w k : ℕ) (d : A) → k < 64 → w < length xs → n ≤ 64 * length xs → AreFull n xs
      → slice_get (flat_map f xs) (64 * w + k) ≡ slice_get (f (get_or xs w d)) k
  item_at [] n w k d below inside few full = absurd (omega arith)
  item_at (x ∷ xs) n zero k d below inside few full =
      let at : 64 * 0 + k ≡ k = omega arith in
      let first = first_full n x xs full in
      ap (slice_get (f x ++ flat_map f xs)) at ∙ elim (cases_lt k (length (f x))) [
        | inl within ↦ slice_left (f x) (flat_map f xs) k within
        | inr past ↦
            let all = all_count (x ∷ xs) n few full in
            slice_get_past (flat_map f (x ∷ xs)) k (omega (arith, past, first, all, below))
            ∙ sym (slice_get_past (f x) k past)
      ]
  item_at (x ∷ xs) n (suc w) k d below inside few full =
      let first = first_full n x xs full in
      elim (cases_lt n 64) [
        | inl less ↦
            let all = all_count (x ∷ xs) n few full in
            let here = full (suc w) d inside in
            slice_get_past (flat_map f (x ∷ xs)) (64 * suc w + k) (omega (arith, less, all))
            ∙ sym (slice_get_past (f (get_or xs w d)) k (omega (arith, here, less)))
        | inr more ↦
            let at : 64 * suc w + k ≡ length (f x) + (64 * w + k) = omega (arith, first, more) in
            ap (slice_get (f x ++ flat_map f xs)) at
            ∙ (slice_right (f x) (flat_map f xs) (64 * w + k)
            ∙ item_at xs (n - 64) w k d below (omega arith) (omega (arith, few)) (rest_full n x xs full))
      ]

  -- One more item, in the list that is next.
  pub more_at : (xs : List A) (n w : ℕ) (y : A) (b : B) (d : A) → 64 * w ≤ n → n < 64 * w + 64 → w < length xs
      → AreFull n xs → f y ≡ f (get_or xs w d) ++ b ∷ [] → flat_map f (set xs w y) ≡ flat_map f xs ++ b ∷ []
  more_at [] n w y b d from below inside full is = absurd (omega arith)
  more_at (x ∷ xs) n zero y b d from below inside full is =
      let none = none_left xs (n - 64) (omega arith) (rest_full n x xs full) in
      let front : f y ++ flat_map f xs ≡ (f x ++ b ∷ []) ++ [] = λ i. is i ++ none i in
      let back : f x ++ [] ≡ f x ++ flat_map f xs = λ i. f x ++ sym none i in
      front ∙ (nothing_more (f x ++ b ∷ [])
      ∙ ap (λ (l : List B). l ++ b ∷ []) (sym (nothing_more (f x)) ∙ back)) where
        nothing_more : (l : List B) → l ++ [] ≡ l
        nothing_more [] = refl
        nothing_more (v ∷ l) = ap (λ (r : List B). v ∷ r) (nothing_more l)
  more_at (x ∷ xs) n (suc w) y b d from below inside full is =
      ap (λ (l : List B). f x ++ l)
      (more_at xs (n - 64) w y b d (omega arith) (omega arith) (omega arith) (rest_full n x xs full) is)
      ∙ sym (append_assoc (f x) (flat_map f xs) (b ∷ []))

  -- Two lists whose lists have the same items.
  pub same_all : (xs ys : List A) → length ys ≡ length xs
      → ((w : ℕ) (d : A) → w < length xs → f (get_or ys w d) ≡ f (get_or xs w d)) → flat_map f ys ≡ flat_map f xs
  same_all [] [] count same = refl
  same_all [] (y ∷ ys) count same = absurd (omega arith)
  same_all (x ∷ xs) [] count same = absurd (omega arith)
  same_all (x ∷ xs) (y ∷ ys) count same =
      let rest = same_all xs ys (omega arith) (λ w d inside. same (suc w) d (omega arith)) in
      let first = same 0 x (omega arith) in
      λ i. first i ++ rest i
