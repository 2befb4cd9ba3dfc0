-- Each text is that of one list of rows, or malformed at one line, and never both.
use Rattle.std.proofs.Common.{◌≡◌, ◌⊎◌, inl, inr, ℕ, ◌+◌, ◌-◌, ◌<◌, ◌≤◌, List, [], length, get_or, sym, ◌∙◌, ap, subst, arith}
use Rattle.std.proofs.lemmas.Bool.{cases_lt}
use Rattle.std.proofs.lemmas.List.{length-map, get_or-map, get_or-take}
use Rattle.ht_tern.specs.declared.tern.Tern.{Tern}
use Rattle.ht_ports.specs.LineRule.{lines_of}
use Rattle.ht_texts.specs.Tests.{IsTooLong}
use Rattle.ht_texts.specs.WrongLines.{IsFirst}
use Rattle.ht_texts.proofs.CodedLaws.{map_injective}
use Rattle.ht_texts.proofs.VectorLaws.{tern_code_injective}
use Rattle.ht_texts.proofs.StopLaws.{AreCodedLines, coded_at, coded_or_stop}
use Rattle.ht_texts.proofs.WrongLineLaws.{RightOrFirst, first_of_both, short_or_long, short_is_right}
use Rattle.ht_dictionary.specs.ResponseTexts.{tern_code, row_text, AreFirstRows, IsRowText, IsResponseText, IsNoResponse, IsMissingResponse, IsWrongResponse, IsMalformedResponse}
use Rattle.ht_dictionary.proofs.RowTextLaws.{value_or_none}

-- a text is that of one list of rows at most
pub one_list : (width vectors : ℕ) (text : List ℕ) (a b : List (List Tern)) → IsResponseText width vectors text a
    → IsResponseText width vectors text b → a ≡ b
one_list width vectors text a b is_a is_b =
    map_injective row_text (map_injective tern_code tern_code_injective) a b (sym is_a.lines ∙ is_b.lines)

-- ---- the first line that is wrong, or rows

-- rows, one for each of as many vectors at most
FewRows : ℕ → ℕ → List ℕ → Type 0
FewRows width vectors text = ((rows : List (List Tern)) × AreCodedLines tern_code width (lines_of text) rows)
    × (length (lines_of text) ≤ vectors)

-- a line comes after the last vector
too_many : (width vectors : ℕ) (text : List ℕ) → vectors < length (lines_of text)
    → ((j : ℕ) → j < vectors → (row : List Tern) × IsRowText width (get_or (lines_of text) j []) row)
    → IsFirst (IsNoResponse width vectors text) (vectors + 1)
too_many width vectors text many rows = record {
  wrong = record { counted = (omega arith, omega (arith, many)); wrong = inl (omega arith) };
  first = λ m below bad. elim bad.wrong [
    | inl past ↦ omega (arith, below, past)
    | inr none ↦ let row = rows (m - 1) (omega (arith, below, bad.counted.0)) in none row.0 row.1
  ];
}

rows_or_first : (width vectors : ℕ) (text : List ℕ)
    → RightOrFirst (FewRows width vectors text) (IsNoResponse width vectors text)
unfolding FewRows
rows_or_first width vectors text =
    let lines = lines_of text in elim (coded_or_stop tern_code value_or_none width lines) [
      | inl are ↦ elim (cases_lt vectors (length lines)) [
        | inr few ↦ inl (are, few)
        | inl many ↦ inr (
          vectors + 1,
          too_many width vectors text many (λ j below.
              coded_at tern_code width lines are.0 are.1 j (omega (arith, below, many))),
        )
      ]
      | inr stop ↦ elim (cases_lt vectors (stop.0 + 1)) [
        | inl past ↦ inr (
          vectors + 1,
          too_many width vectors text (omega (arith, past, stop.1.within))
              (λ j below. stop.1.before j (omega (arith, below, past))),
        )
        | inr inside ↦ inr (
          stop.0 + 1,
          record {
            wrong = record {
              counted = (omega arith, omega (arith, stop.1.within));
              wrong = inr (subst (λ k. (row : List Tern) → ¬ IsRowText width (get_or lines k []) row) (omega arith)
                  stop.1.none);
            };
            first = λ m below bad. elim bad.wrong [
              | inl many ↦ omega (arith, below, inside, many)
              | inr none ↦
                  let row = stop.1.before (m - 1) (omega (arith, below, bad.counted.0)) in none row.0 row.1
            ];
          },
        )
      ]
    ]

few_are_right : (width vectors : ℕ) (text : List ℕ) → FewRows width vectors text → (n : ℕ)
    → ¬ IsNoResponse width vectors text n
unfolding FewRows
few_are_right width vectors text few n bad = elim bad.wrong [
  | inl many ↦ omega (arith, few.1, many, bad.counted.1)
  | inr none ↦
      let row = coded_at tern_code width (lines_of text) few.0.0 few.0.1 (n - 1)
      (omega (arith, bad.counted.0, bad.counted.1)) in none row.0 row.1
]

-- no line of a text of rows is wrong
pub never_both : (width vectors : ℕ) (text : List ℕ) (rows : List (List Tern)) (n : ℕ)
    → IsResponseText width vectors text rows → ¬ IsMalformedResponse width vectors text n
unfolding FewRows
never_both width vectors text rows n is malformed =
    let count = ap length is.lines ∙ length-map rows row_text in elim malformed.wrong [
      | inl bad ↦ few_are_right width vectors text
          ((rows, record { texts = is.lines; widths = is.widths }), omega (arith, count, is.each)) n bad
      | inr (inl bad) ↦ omega (arith, count, is.each, bad.missing, bad.awaited)
      | inr (inr long) ↦ short_is_right text is.short n long
    ]

enough_or_missing : (vectors : ℕ) (text : List ℕ)
    → RightOrFirst (vectors ≤ length (lines_of text)) (IsMissingResponse vectors text)
enough_or_missing vectors text = elim (cases_lt (length (lines_of text)) vectors) [
  | inr enough ↦ inl enough
  | inl fewer ↦ inr (
    length (lines_of text) + 1,
    record {
      wrong = record { missing = omega arith; awaited = omega (arith, fewer) };
      first = λ m below bad. omega (arith, below, bad.missing);
    },
  )
]

-- each text is that of some rows, or malformed at some line
pub rows_or_line : (width vectors : ℕ) (text : List ℕ)
    → ((rows : List (List Tern)) × IsResponseText width vectors text rows)
    ⊎ ((n : ℕ) × IsMalformedResponse width vectors text n)
unfolding FewRows
rows_or_line width vectors text =
    let IsMissingOrLong : ℕ → Type 0 = λ n. IsMissingResponse vectors text n ⊎ IsTooLong text n in
    elim (first_of_both (IsNoResponse width vectors text) IsMissingOrLong (few_are_right width vectors text)
    (λ right n wrong. elim wrong [
      | inl bad ↦ omega (arith, right.0, bad.missing, bad.awaited)
      | inr long ↦ short_is_right text right.1 n long
    ]) (rows_or_first width vectors text)
    (first_of_both (IsMissingResponse vectors text) (IsTooLong text)
    (λ enough n bad. omega (arith, enough, bad.missing, bad.awaited)) (short_is_right text)
    (enough_or_missing vectors text) (short_or_long text))) [
      | inl right ↦
          let rows = right.0.0 in
          let count = ap length rows.1.texts ∙ length-map rows.0 row_text in
          inl (
            rows.0,
            record {
              lines = rows.1.texts;
              widths = rows.1.widths;
              each = omega (arith, count, right.0.1, right.1.0);
              short = right.1.1;
            },
          )
      | inr first ↦ inr first
    ]

-- ---- where reading stops

-- the lines that were read are not wrong by themselves
read_right : (width vectors : ℕ) (text : List ℕ) (rows : List (List Tern)) → AreFirstRows width text rows
    → length rows ≤ vectors → (m : ℕ) → m ≤ length rows → ¬ IsNoResponse width vectors text m
read_right width vectors text rows are few m upto bad = elim bad.wrong [
  | inl many ↦ omega (arith, few, upto, many)
  | inr none ↦
      let lines = lines_of text in
      let inside : m - 1 < length rows = omega (arith, upto, bad.counted.0) in
      none (get_or rows (m - 1) []) (record {
        characters = sym (get_or-take (length rows) lines (m - 1) [] inside)
            ∙ (ap (λ l. get_or l (m - 1) []) are.lines ∙ get_or-map row_text rows (m - 1) [] [] inside);
        count = are.widths (m - 1) [] inside;
      })
]

-- where the lines so far are right and the next one is wrong, the text is malformed at this line
pub stopped_at : (width vectors : ℕ) (text : List ℕ) (rows : List (List Tern)) → AreFirstRows width text rows
    → length rows ≤ vectors → ((m : ℕ) → m ≤ length rows → ¬ IsTooLong text m)
    → IsWrongResponse width vectors text (length rows + 1)
    → IsMalformedResponse width vectors text (length rows + 1)
stopped_at width vectors text rows are few short wrong = record {
  wrong = wrong;
  first = λ m below earlier. elim earlier [
    | inl bad ↦ read_right width vectors text rows are few m (omega arith) bad
    | inr other ↦ elim other [
      | inl missing ↦ omega (arith, below, are.there, missing.missing)
      | inr long ↦ short m (omega arith) long
    ]
  ];
}
