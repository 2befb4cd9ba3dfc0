-- The line of a flip-flop and its pairs, told by its text.
use Rattle.std.proofs.Common.{◌≡◌, ◌≢◌, ◌⊎◌, inl, inr, ℕ, ◌+◌, ◌-◌, ◌<◌, ◌≤◌, List, [], ◌∷◌, ◌++◌, length, drop, append_assoc, refl, sym, ap, ◌∙◌, arith}
use Rattle.std.specs.Prelude.{codes, cond, eqb}
use Rattle.std.specs.Fmt.{decimal}
use Rattle.std.proofs.lemmas.Bool.{cases_lt}
use Rattle.std.proofs.lemmas.Fmt.{decimal_injective}
use Rattle.std.proofs.lemmas.List.{append_cancel_left}
use Rattle.std.proofs.Math.Seq.{drop-append_seam}
use Rattle.ht_tern.specs.declared.tern.Tern.{Tern}
use Rattle.ht_tern.specs.declared.tern.Tern.TheVariants.{Zero, One, Unk}
use Rattle.ht_pairs.specs.Pairs.{Pair, pair, set_of}
use Rattle.ht_texts.specs.Tests.{tern_code}
use Rattle.ht_texts.proofs.ReportChoiceLaws.{same_or_not, some_below}
use Rattle.ht_tree.specs.declared.family_row.FamilyRow.{FamilyRow}
use Rattle.ht_entries.specs.LineWords.{numbered_from_1, max_number, IsNumber}
use Rattle.ht_entries.specs.ParsedLines.{IsSplitAt}
use Rattle.ht_entries.specs.BySets.{pairs_text, row_text, IsSetText, IsRowText}
use Rattle.ht_entries.proofs.SpaceLaws.{parts_same, number_has_no_space}
use Rattle.ht_entries.proofs.PairsTextLaws.{pairs_same}

abbrev row_of : ℕ → List Pair → FamilyRow
row_of dff set = record { dff = dff; set = set }

row_text_is : (row : FamilyRow) → row_text row ≡ codes "pairs " ++ (decimal (row.dff + 1) ++ pairs_text row.set)
row_text_is row = append_assoc (codes "pairs ") (decimal (row.dff + 1)) (pairs_text row.set)

-- the text of a set begins with a space
begins_with_space : (set : List Pair) → 0 < length set → (more : List ℕ) × (pairs_text set ≡ 32 ∷ more)
begins_with_space [] some = absurd (omega (arith, some))
begins_with_space (p ∷ set) some = (tern_code p.good ∷ tern_code p.faulty ∷ pairs_text set, refl)

record SameFront (m n : ℕ) (rest more : List ℕ) : Type 0 where
  numbers : m ≡ n
  rests : rest ≡ more

front_same : (m n : ℕ) (rest more : List ℕ) → m ≤ max_number → n ≤ max_number
    → ((xs : List ℕ) × (rest ≡ 32 ∷ xs)) → ((xs : List ℕ) × (more ≡ 32 ∷ xs))
    → decimal m ++ rest ≡ decimal n ++ more → SameFront m n rest more
front_same m n rest more h k a b e =
    let same = parts_same (decimal m) (decimal n) a.0 b.0 (number_has_no_space m h) (number_has_no_space n k)
    (ap (λ t. decimal m ++ t) (sym a.1) ∙ e ∙ ap (λ t. decimal n ++ t) b.1) in
    record {
      numbers = decimal_injective m n (omega (arith, h)) (omega (arith, k)) same.fronts;
      rests = a.1 ∙ ap (λ t. 32 ∷ t) same.rests ∙ sym b.1;
    }

-- what follows the word
row_rest : (line after : List ℕ) (row : FamilyRow) → line ≡ codes "pairs " ++ after → line ≡ row_text row
    → after ≡ decimal (row.dff + 1) ++ pairs_text row.set
row_rest line after row is e =
    append_cancel_left (codes "pairs ") after (decimal (row.dff + 1) ++ pairs_text row.set)
    (sym is ∙ e ∙ row_text_is row)

-- rows with the same text are of the same flip-flop and have the same pairs
pub rows_same : (row other : FamilyRow) → IsRowText row → IsRowText other → row_text row ≡ row_text other → row ≡ other
rows_same row other h k e =
    let same = front_same (row.dff + 1) (other.dff + 1) (pairs_text row.set) (pairs_text other.set)
    (omega (arith, h.dff)) (omega (arith, k.dff)) (begins_with_space row.set h.set.some)
    (begins_with_space other.set k.set.some)
    (row_rest (row_text row) (decimal (row.dff + 1) ++ pairs_text row.set) other (row_text_is row) e) in
    let dffs : row.dff ≡ other.dff = omega (arith, same.numbers) in
    ap (λ dff. row_of dff row.set) dffs ∙ ap (λ set. row_of other.dff set) (pairs_same row.set other.set same.rests)

-- ---- read

-- what has no number before a space is no such line
pub no_row_number : (line after : List ℕ) → line ≡ codes "pairs " ++ after
    → ((n : ℕ) (rest : List ℕ) → IsNumber n → after ≢ decimal n ++ 32 ∷ rest)
    → (row : FamilyRow) → IsRowText row → line ≢ row_text row
no_row_number line after is none row h e =
    let begins = begins_with_space row.set h.set.some in
    none (row.dff + 1) begins.0 (omega arith, omega (arith, h.dff))
    (row_rest line after row is e ∙ ap (λ t. decimal (row.dff + 1) ++ t) begins.1)

-- nor is what has no set after it
pub no_row_set : (line after rest : List ℕ) (n : ℕ) → line ≡ codes "pairs " ++ after → IsNumber n
    → IsSplitAt after (decimal n) rest → ((set : List Pair) → IsSetText set → rest ≢ pairs_text set)
    → (row : FamilyRow) → IsRowText row → line ≢ row_text row
no_row_set line after rest n is counts split none row h e =
    none row.set h.set
    (front_same n (row.dff + 1) rest (pairs_text row.set) counts.1 (omega (arith, h.dff)) split.space
    (begins_with_space row.set h.set.some) (sym split.parts ∙ row_rest line after row is e)).rests

-- ---- whether bytes are such a line

-- the value of a character, and the pairs of a text
abbrev value_seen : ℕ → Tern
value_seen byte = cond (eqb byte 48) Zero (cond (eqb byte 49) One Unk)

value_again : (value : Tern) → value_seen (tern_code value) ≡ value
value_again Zero = refl
value_again One = refl
value_again Unk = refl

abbrev pairs_seen : List ℕ → List Pair
pairs_seen [] = []
pairs_seen (space ∷ []) = []
pairs_seen (space ∷ good ∷ []) = []
pairs_seen (space ∷ good ∷ faulty ∷ rest) = pair (value_seen good) (value_seen faulty) ∷ pairs_seen rest

pairs_again : (set : List Pair) → pairs_seen (pairs_text set) ≡ set
pairs_again [] = refl
pairs_again (p ∷ set) =
    ap (λ g. pair g (value_seen (tern_code p.faulty)) ∷ pairs_seen (pairs_text set)) (value_again p.good)
    ∙ ap (λ f. pair p.good f ∷ pairs_seen (pairs_text set)) (value_again p.faulty)
    ∙ ap (λ s. p ∷ s) (pairs_again set)

abbrev front_of : ℕ → List ℕ
front_of dff = numbered_from_1 (codes "pairs ") dff

-- the pairs that the line of a flip-flop has
abbrev seen_of : List ℕ → ℕ → List Pair
seen_of bytes dff = pairs_seen (drop (length (front_of dff)) bytes)

seen_is : (bytes : List ℕ) (dff : ℕ) (set : List Pair) → bytes ≡ row_text (row_of dff set) → seen_of bytes dff ≡ set
seen_is bytes dff set e =
    ap (λ t. seen_of t dff) e ∙ ap pairs_seen (drop-append_seam (front_of dff) (pairs_text set)) ∙ pairs_again set

abbrev IsLineOf : List ℕ → ℕ → Type 0
IsLineOf bytes dff = (set : List Pair) × IsSetText set × (bytes ≡ row_text (row_of dff set))

line_of_or_not : (bytes : List ℕ) (dff : ℕ) → IsLineOf bytes dff ⊎ (IsLineOf bytes dff → ⊥)
line_of_or_not bytes dff =
    let seen = seen_of bytes dff in
    elim (same_or_not bytes (row_text (row_of dff seen))) [
      | inr differs ↦ inr (λ l. differs (l.2 ∙ ap (λ s. row_text (row_of dff s)) (sym (seen_is bytes dff l.0 l.2))))
      | inl same ↦ elim (cases_lt 0 (length seen)) [
        | inr none ↦ inr (λ l. omega (arith, none, l.1.some, ap length (seen_is bytes dff l.0 l.2)))
        | inl some ↦ elim (same_or_not (pairs_text seen) (pairs_text (set_of seen))) [
          | inl order ↦ inl (seen, record { some = some; in_order = pairs_same seen (set_of seen) order }, same)
          | inr disorder ↦ inr (λ l.
              let is = seen_is bytes dff l.0 l.2 in
              disorder (ap pairs_text (is ∙ l.1.in_order ∙ ap set_of (sym is))))
        ]
      ]
    ]

-- bytes are the line of some flip-flop and its pairs, or of none
pub row_or_not : (bytes : List ℕ) → ((row : FamilyRow) × IsRowText row × (bytes ≡ row_text row))
    ⊎ ((row : FamilyRow) → IsRowText row → bytes ≢ row_text row)
row_or_not bytes = elim (some_below (IsLineOf bytes) (line_of_or_not bytes) max_number) [
  | inl found ↦ inl (row_of found.0 found.2.0, record { dff = found.1; set = found.2.1 }, found.2.2)
  | inr none ↦ inr (λ row is e. none row.dff is.dff (row.set, is.set, e))
]
