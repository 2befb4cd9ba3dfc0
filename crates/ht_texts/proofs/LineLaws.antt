-- Lines that are written each with its LF are the lines of their text.
use Rattle.std.proofs.Common.{◌≡◌, ◌≢◌, ◌==◌, inl, inr, ℕ, ◌-◌, ◌<◌, true, List, [], ◌∷◌, length, get_or, map, refl, sym, ap, ◌∙◌, arith}
use Rattle.std.specs.Prelude.{codes, not}
use Rattle.std.specs.List.{list_all}
use Rattle.std.proofs.lemmas.Bool.{cases_Bool, and_from, and_parts, not-true, eqb-false, ne_eqb, false≢true}
use Rattle.std.proofs.lemmas.List.{append_assoc}
use Rattle.std.proofs.lemmas.List.Concat.{flat_map-cons}
use Rattle.std.proofs.lemmas.List.Folds.{list_all_at}
use Rattle.ht_ports.specs.LineRule.{lines_of, without_cr, HasNoLf}
use Rattle.ht_ports.proofs.TextLaws.{lines-lf}
use Rattle.ht_texts.specs.Lines.{with_lf, with_lfs}
use Rattle.ht_texts.specs.SearchReports.{is_line_byte}

-- no LF, and no CR at the end
pub record IsClean (line : List ℕ) : Type 0 where
  pub no_lf : HasNoLf line
  pub no_cr : without_cr line ≡ line

-- a line without a CR has none at its end
pub ends_without_cr : (line : List ℕ) → ((k : ℕ) → k < length line → get_or line k 0 ≢ 13) → without_cr line ≡ line
ends_without_cr [] none = refl
ends_without_cr (x ∷ line) none = rw (ne_eqb (get_or (x ∷ line) (length (x ∷ line) - 1) 0) 13
    (none (length (x ∷ line) - 1) (omega arith))) refl

-- no LF and no CR anywhere
abbrev pub ArePlain : List ℕ → Type 0
ArePlain bytes = list_all is_line_byte bytes ≡ true

-- a line of plain bytes has no LF, and no CR at its end
plain_at : (bytes : List ℕ) (k : ℕ) → ArePlain bytes → k < length bytes
    → (get_or bytes k 0 ≢ 10) × (get_or bytes k 0 ≢ 13)
plain_at bytes k plain below =
    let byte = get_or bytes k 0 in
    elim (cases_Bool (is_line_byte byte)) [
      | inl is ↦
          let parts = and_parts (not (byte == 10)) (not (byte == 13)) is in (
            eqb-false byte 10 (not-true (byte == 10) parts.0),
            eqb-false byte 13 (not-true (byte == 13) parts.1),
          )
      | inr other ↦ absurd (false≢true (sym (list_all_at is_line_byte bytes k 0 below other) ∙ plain))
    ]

-- a line of plain bytes is clean: it has no LF, and no CR at its end
pub plain_is_clean : (bytes : List ℕ) → ArePlain bytes → IsClean bytes
plain_is_clean bytes plain = record {
  no_lf = λ k below. (plain_at bytes k plain below).0;
  no_cr = ends_without_cr bytes (λ k below. (plain_at bytes k plain below).1);
}

abbrev pub AreClean : List (List ℕ) → Type 0
AreClean [] = Unit {0}
AreClean (line ∷ lines) = IsClean line × AreClean lines

-- clean lines that are written each with its LF are the lines of that text
pub lines_are_lines : (lines : List (List ℕ)) → AreClean lines → lines_of (with_lfs lines) ≡ lines
lines_are_lines [] clean = refl
lines_are_lines (line ∷ lines) clean =
    ap lines_of (flat_map-cons with_lf line lines ∙ append_assoc line (codes "\n") (with_lfs lines))
    ∙ (lines-lf line (with_lfs lines) clean.0.no_lf
    ∙ (ap (λ x. x ∷ lines_of (with_lfs lines)) clean.0.no_cr ∙ ap (λ x. line ∷ x) (lines_are_lines lines clean.1)))

-- lines of characters that are plain
module _ {A : Type 0} (code : A → ℕ) (plain : (value : A) → is_line_byte (code value) ≡ true) where
  coded_is_plain : (values : List A) → ArePlain (map code values)
  coded_is_plain [] = refl
  coded_is_plain (value ∷ values) = and_from (is_line_byte (code value)) (list_all is_line_byte (map code values))
      (plain value) (coded_is_plain values)

  coded_are_clean : (list : List (List A)) → AreClean (map (λ values. map code values) list)
  coded_are_clean [] = tt
  coded_are_clean (values ∷ list) = (plain_is_clean (map code values) (coded_is_plain values), coded_are_clean list)

  -- lines of characters that are plain, each written with its LF, are the lines of their text
  pub coded_are_lines : (list : List (List A))
      → lines_of (with_lfs (map (λ values. map code values) list)) ≡ map (λ values. map code values) list
  coded_are_lines list = lines_are_lines (map (λ values. map code values) list) (coded_are_clean list)
