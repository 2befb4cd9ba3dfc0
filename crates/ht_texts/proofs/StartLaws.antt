-- A text is that of one start, or malformed at one line.
use Rattle.std.proofs.Common.{◌≡◌, ◌≢◌, ◌⊎◌, ◌<◌, ◌≤◌, inl, inr, ℕ, zero, suc, List, [], ◌∷◌, length, get_or, map, Option, Some, None, refl, ap, sym, ◌∙◌, arith}
use Rattle.std.proofs.lemmas.Bool.{cases_eq, cases_lt}
use Rattle.std.proofs.lemmas.List.{length-map}
use Rattle.ht_tern.specs.declared.tern.Tern.{Tern}
use Rattle.ht_tern.specs.declared.tern.Tern.TheVariants.{Zero, Unk}
use Rattle.ht_ports.specs.LineRule.{lines_of}
use Rattle.ht_texts.specs.Tests.{line_at}
use Rattle.ht_texts.specs.StartTexts.{start_value, IsMalformedStart, IsStartLine, IsStartOrMalformed, IsStartText}

some_same : (a b : Tern) → (let x : Option Tern = Some a in x ≡ Some b) → a ≡ b
some_same a b e = cc

head_same : (x y : Option Tern) (xs ys : List (Option Tern)) → x ∷ xs ≡ y ∷ ys → x ≡ y
head_same x y xs ys e = cc

tail_same : (x y : Option Tern) (xs ys : List (Option Tern)) → x ∷ xs ≡ y ∷ ys → xs ≡ ys
tail_same x y xs ys e = cc

-- lists of three-valued values are the same if they are with each value in a `Some`
pub somes_same : (a b : List Tern) → (let xs : List (Option Tern) = map Some a in xs ≡ map Some b) → a ≡ b
somes_same [] [] e = refl
somes_same [] (y ∷ b) e = cc
somes_same (x ∷ a) [] e = cc
somes_same (x ∷ a) (y ∷ b) e =
    let here = some_same x y (head_same (Some x) (Some y) (map Some a) (map Some b) e) in
    let rest = somes_same a b (tail_same (Some x) (Some y) (map Some a) (map Some b) e) in
    cc

-- a line is that of at most one start
pub one_start : (width : ℕ) (line : List ℕ) (a b : List Tern) → IsStartLine width line a → IsStartLine width line b
    → a ≡ b
one_start width line a b is other = somes_same a b (sym is.characters ∙ other.characters)

-- a line with a character that has no value is that of no start
some_at : (line : List ℕ) (start : List Tern) (k : ℕ) → map start_value line ≡ map Some start → k < length line
    → start_value (get_or line k 0) ≡ None → ⊥
some_at [] start k is below none = absurd (omega arith)
some_at (x ∷ line) [] k is below none = cc
some_at (x ∷ line) (v ∷ start) zero is below none =
    let here = head_same (start_value x) (Some v) (map start_value line) (map Some start) is in cc
some_at (x ∷ line) (v ∷ start) (suc k) is below none =
    some_at line start k (tail_same (start_value x) (Some v) (map start_value line) (map Some start) is)
    (omega arith) none

-- a line with a character that has no value is the line of no start
pub no_value_no_start : (width : ℕ) (line : List ℕ) (k : ℕ) → k < length line → start_value (get_or line k 0) ≡ None
    → (start : List Tern) → ¬ IsStartLine width line start
no_value_no_start width line k below none start is = some_at line start k is.characters below none

-- nor is a line of another length
pub other_length_no_start : (width : ℕ) (line : List ℕ) → length line ≢ width → (start : List Tern)
    → ¬ IsStartLine width line start
other_length_no_start width line differs start is =
    differs (sym (length-map line start_value) ∙ ap (λ (l : List (Option Tern)). length l) is.characters
    ∙ length-map start Some ∙ is.count)

option_cases : (x : Option Tern) → (x ≡ None) ⊎ ((v : Tern) × (x ≡ Some v))
option_cases None = inl refl
option_cases (Some v) = inr (v, refl)

values_or_none : (line : List ℕ) → ((start : List Tern) × (map start_value line ≡ map Some start))
    ⊎ ((k : ℕ) × (k < length line) × (start_value (get_or line k 0) ≡ None))
values_or_none [] = inl ([], refl)
values_or_none (x ∷ line) = elim (option_cases (start_value x)) [
  | inl none ↦ inr (0, omega arith, none)
  | inr here ↦ elim (values_or_none line) [
    | inl rest ↦ inl (here.0 ∷ rest.0, λ i. here.1 i ∷ rest.1 i)
    | inr bad ↦ inr (suc bad.0, omega (arith, bad.1), bad.2)
  ]
]

-- each line is that of a start, or of none
pub start_or_none : (width : ℕ) (line : List ℕ) → ((start : List Tern) × IsStartLine width line start)
    ⊎ ((start : List Tern) → ¬ IsStartLine width line start)
start_or_none width line = elim (cases_eq (length line) width) [
  | inr differs ↦ inr (other_length_no_start width line differs)
  | inl same ↦ elim (values_or_none line) [
    | inr bad ↦ inr (no_value_no_start width line bad.0 bad.1 bad.2)
    | inl read ↦ inl (
      read.0,
      record {
        characters = read.1;
        count = sym (length-map read.0 Some) ∙ sym (ap (λ (l : List (Option Tern)). length l) read.1)
            ∙ length-map line start_value ∙ same;
      },
    )
  ]
]

-- ---- the text

-- each text is that of a start, or malformed at some line
pub text_or_malformed : (width : ℕ) (text : List ℕ)
    → ((start : List Tern) × IsStartText width text start) ⊎ ((n : ℕ) × IsMalformedStart width text n)
text_or_malformed width text = elim (start_or_none width (line_at text 1)) [
  | inr none ↦ inr (1, inl (refl, none))
  | inl read ↦ elim (cases_lt 1 (length (lines_of text))) [
    | inl more ↦ inr (2, inr (refl, omega (arith, more), read))
    | inr only ↦ inl (read.0, record { line = read.1; only = omega (arith, only) })
  ]
]

-- the text of a start is malformed at no line
pub never_both : (width : ℕ) (text : List ℕ) (start : List Tern) (n : ℕ) → IsStartText width text start
    → ¬ IsMalformedStart width text n
never_both width text start n is (inl first) = first.1 start is.line
never_both width text start n is (inr second) = let only = is.only in let more = second.1 in omega (arith, only, more)

-- no text is malformed as a start at two lines
pub one_line : (width : ℕ) (text : List ℕ) (m n : ℕ) → IsMalformedStart width text m → IsMalformedStart width text n
    → m ≡ n
one_line width text m n (inl a) (inl b) = a.0 ∙ sym b.0
one_line width text m n (inl a) (inr b) = absurd (a.1 b.2.0 b.2.1)
one_line width text m n (inr a) (inl b) = absurd (b.1 a.2.0 a.2.1)
one_line width text m n (inr a) (inr b) = a.0 ∙ sym b.0

-- each text is that of one start or malformed at one line, and never both
pub start_or_malformed : (width : ℕ) (text : List ℕ) → IsStartOrMalformed width text
start_or_malformed width text = record {
  either = text_or_malformed width text;
  never_both = never_both width text;
  one_value = λ a b is other. one_start width (line_at text 1) a b is.line other.line;
  one_line = one_line width text;
}

-- ---- examples

-- `0` with and without its end; `X` and `x`; an empty text and an empty line where there is no flip-flop
abbrev Reads : ℕ → List ℕ → List Tern → Type 0
Reads width text start = (map start_value (line_at text 1) ≡ map Some start) × (length start ≡ width)
    × (length (lines_of text) ≤ 1)

one_zero : Reads 1 (48 ∷ 13 ∷ 10 ∷ []) (Zero ∷ [])
one_zero = (refl, refl, omega arith)

unknown_twice : Reads 2 (88 ∷ 120 ∷ []) (Unk ∷ Unk ∷ [])
unknown_twice = (refl, refl, omega arith)

no_latch : Reads 0 [] []
no_latch = (refl, refl, omega arith)

no_latch_line : Reads 0 (10 ∷ []) []
no_latch_line = (refl, refl, omega arith)

-- two lines are one too many
second_line : IsMalformedStart 1 (48 ∷ 10 ∷ 10 ∷ []) 2
second_line = inr (refl, omega arith, (Zero ∷ [], record { characters = refl; count = refl }))
