-- Which lines are the text of a row.
use Rattle.std.specs.Prelude.{nat_eq, MatchOption, if◌then◌else◌, ◌||◌}
use Rattle.std.specs.List.{list_any}
use Rattle.std.specs.declared.alloc.Global.{Global}
use Rattle.std.proofs.Common.{◌≡◌, ◌≢◌, ◌⊎◌, ◌∙◌, ℕ, List, [], ◌∷◌, Vec, Bool, true, false, map, Option, Some, None, inl, inr, refl, sym, ap}
use Rattle.std.proofs.lemmas.Bool.{cases_eq, false≢true, ne_eqb, or_parts}
use Rattle.ht_tern.specs.declared.tern.Tern.{Tern}
use Rattle.ht_tern.specs.declared.tern.Tern.TheVariants.{Zero, One, Unk}
use Rattle.ht_texts.specs.StartTexts.{IsStartLine, start_value}
use Rattle.ht_dictionary.specs.ResponseTexts.{IsRowText, tern_code, row_text}

-- a character is a value's or no value's
pub value_or_none : (x : ℕ) → ((value : Tern) × (x ≡ tern_code value)) ⊎ ((value : Tern) → x ≢ tern_code value)
value_or_none x = elim (cases_eq x 48) [
  | inl is_0 ↦ inl (Zero, is_0)
  | inr not_0 ↦ elim (cases_eq x 49) [
    | inl is_1 ↦ inl (One, is_1)
    | inr not_1 ↦ elim (cases_eq x 88) [
      | inl is_x ↦ inl (Unk, is_x)
      | inr not_x ↦ inr
          (λ value. elim value as (λ v. x ≢ tern_code v) [ Zero ↦ not_0 | One ↦ not_1 | Unk ↦ not_x ])
    ]
  ]
]

-- ---- rows and starts

-- a line with an x
abbrev pub has_x : List ℕ → Bool
has_x line = list_any (λ y. nat_eq y 120) line

-- the character of a value is a start's
code_value : (value : Tern) → start_value (tern_code value) ≡ Some value
code_value Zero = refl
code_value One = refl
code_value Unk = refl

-- and but for x a start has no other
value_code : (x : ℕ) (value : Tern) → nat_eq x 120 ≡ false → start_value x ≡ Some value → x ≡ tern_code value
value_code x value other is = elim (value_or_none x) [
  | inl coded ↦
      let same : Some value ≡ Some coded.0 = sym is ∙ (ap start_value coded.1 ∙ code_value coded.0) in
      let value_is : value ≡ coded.0 = cc in
      coded.1 ∙ ap tern_code (sym value_is)
  | inr none ↦
      let nothing : start_value x ≡ None =
      (λ i. if ne_eqb x 48 (none Zero) i then Some Zero else if ne_eqb x 49 (none One) i then Some One
      else if ne_eqb x 88 (none Unk) i || other i then Some Unk else None) in
      cc
]

start_codes : (line : List ℕ) (row : List Tern) → has_x line ≡ false → map start_value line ≡ map Some row
    → line ≡ row_text row
start_codes [] [] none is = refl
start_codes [] (value ∷ row) none is = cc
start_codes (x ∷ line) [] none is = cc
start_codes (x ∷ line) (value ∷ row) none is =
    let parts = or_parts (nat_eq x 120) (has_x line) none in
    let here : start_value x ≡ Some value = cc in
    let there : map start_value line ≡ map Some row = cc in
    (λ i. value_code x value parts.0 here i ∷ start_codes line row parts.1 there i)

row_values : (row : List Tern) → map start_value (row_text row) ≡ map Some row
row_values [] = refl
row_values (value ∷ row) = (λ i. code_value value i ∷ row_values row i)

row_without : (row : List Tern) → has_x (row_text row) ≡ false
row_without [] = refl
row_without (Zero ∷ row) = row_without row
row_without (One ∷ row) = row_without row
row_without (Unk ∷ row) = row_without row

-- a line with an x is no row's
pub no_row : (width : ℕ) (line : List ℕ) (row : List Tern) → has_x line ≡ true → ¬ IsRowText width line row
no_row width line row has is = false≢true (sym (row_without row) ∙ (ap has_x (sym is.characters) ∙ has))

-- without one it is the line of the same row and start
pub row_read : (width : ℕ) (line : List ℕ) (read : Option (Vec Tern Global)) → has_x line ≡ false
    → MatchOption read ((start : List Tern) → ¬ IsStartLine width line start)
    (λ (start : Vec Tern Global). IsStartLine width line start.items)
    → MatchOption read ((row : List Tern) → ¬ IsRowText width line row)
    (λ (row : Vec Tern Global). IsRowText width line row.items)
row_read width line None none no_start = λ row is.
    no_start row (record { characters = ap (map start_value) is.characters ∙ row_values row; count = is.count })
row_read width line (Some read) none is =
    record { characters = start_codes line read.items none is.characters; count = is.count }
