-- Which lines have the characters of values, by their code.
use Rattle.std.proofs.Common.{◌≡◌, ◌≢◌, ◌⊎◌, inl, inr, ℕ, zero, suc, ◌<◌, List, [], ◌∷◌, length, get_or, map, refl, ap, sym, ◌∙◌, arith}
use Rattle.std.proofs.lemmas.Bool.{cases_eq}
use Rattle.std.proofs.lemmas.List.{length-map}
use Rattle.ht_texts.specs.Tests.{IsCoded}

-- each character of a line of codes is the code of a value
pub get_or-coded : {A : Type 0} (code : A → ℕ) (values : List A) (k : ℕ) → k < length values
    → (value : A) × (get_or (map code values) k 0 ≡ code value)
get_or-coded code [] k below = absurd (omega arith)
get_or-coded code (value ∷ values) zero below = (value, refl)
get_or-coded code (value ∷ values) (suc k) below = get_or-coded code values k (omega arith)

-- a line with a character that is no value's is that of no values
pub none_coded : {A : Type 0} (code : A → ℕ) (width : ℕ) (line : List ℕ) (k : ℕ) → k < length line
    → ((value : A) → get_or line k 0 ≢ code value) → (values : List A) → ¬ IsCoded code width line values
none_coded code width line k below no_value values is =
    let same : length line ≡ length values = ap length is.characters ∙ length-map values code in
    let found = get_or-coded code values k (omega arith) in
    no_value found.0 (ap (λ l. get_or l k 0) is.characters ∙ found.1)

-- nor is a line of another length that of so many values
none_fit : {A : Type 0} (code : A → ℕ) (width : ℕ) (line : List ℕ) → length line ≢ width → (values : List A)
    → ¬ IsCoded code width line values
none_fit code width line differs values is = differs (ap length is.characters ∙ length-map values code ∙ is.count)

-- each character of the line is a value's, or one is no value's
values_or_none : {A : Type 0} (code : A → ℕ)
    → ((x : ℕ) → ((value : A) × (x ≡ code value)) ⊎ ((value : A) → x ≢ code value))
    → (line : List ℕ) → ((values : List A) × (line ≡ map code values))
    ⊎ ((k : ℕ) × (k < length line) × ((value : A) → get_or line k 0 ≢ code value))
values_or_none code value_or_none [] = inl ([], refl)
values_or_none code value_or_none (x ∷ line) = elim (value_or_none x) [
  | inr none ↦ inr (0, omega arith, none)
  | inl here ↦ elim (values_or_none code value_or_none line) [
    | inl rest ↦ inl (here.0 ∷ rest.0, let e = here.1 in let f = rest.1 in cc)
    | inr bad ↦ inr (suc bad.0, omega arith, bad.2)
  ]
]

-- where each character is a value's or no value's, a line is that of some values or of none
pub coded_or_none : {A : Type 0} (code : A → ℕ)
    → ((x : ℕ) → ((value : A) × (x ≡ code value)) ⊎ ((value : A) → x ≢ code value))
    → (width : ℕ) (line : List ℕ) → ((values : List A) × IsCoded code width line values)
    ⊎ ((values : List A) → ¬ IsCoded code width line values)
coded_or_none code value_or_none width line = elim (cases_eq (length line) width) [
  | inr differs ↦ inr (none_fit code width line differs)
  | inl same ↦ elim (values_or_none code value_or_none line) [
    | inr bad ↦ inr (none_coded code width line bad.0 bad.1 bad.2)
    | inl read ↦ inl (
      read.0,
      record { characters = read.1; count = sym (length-map read.0 code) ∙ sym (ap length read.1) ∙ same },
    )
  ]
]

-- lists are the same if an injective function maps them to the same list
pub map_injective : {A B : Type 0} (f : A → B) → ((x y : A) → f x ≡ f y → x ≡ y) → (xs ys : List A)
    → map f xs ≡ map f ys → xs ≡ ys
map_injective f injective [] [] e = refl
map_injective f injective [] (y ∷ ys) e = cc
map_injective f injective (x ∷ xs) [] e = cc
map_injective f injective (x ∷ xs) (y ∷ ys) e =
    let here : f x ≡ f y = cc in
    let more : map f xs ≡ map f ys = cc in
    let first : x ≡ y = injective x y here in
    let rest : xs ≡ ys = map_injective f injective xs ys more in
    cc
