-- What a line is of a text that is known.
use Rattle.std.proofs.Common.{◌≡◌, ◌⊎◌, inl, inr, ℕ, ◌+◌, ◌<◌, ◌≤◌, List, [], ◌∷◌, ◌++◌, length, Some, None, append_assoc, append-nil, refl, sym, ◌∙◌, ap, arith}
use Rattle.std.proofs.lemmas.List.{length-append}
use Rattle.std.proofs.lemmas.Bool.{cases_eq}
use Rattle.std.proofs.lemmas.Bool.Decides.{nat_tests}
use Rattle.std.specs.Prelude.{map}
use Rattle.std.specs.declared.option.Option.{Option}
use Rattle.std.specs.Io.KnownBytes.{IsAtEnd}
use Rattle.ht_ports.specs.LineRule.{before_first_piece, HasNoLf, NextLine, lines_of, pieces_of, without_cr, first_piece, first_through}
use Rattle.ht_ports.proofs.PieceLaws.{pieces-lf, pieces-last}

-- the first line of a text, and the rest
pub record SplitsOff (text line : List ℕ) (count : ℕ) (rest : List ℕ) : Type 0 where
  pub lines : lines_of text ≡ line ∷ lines_of rest
  pub size : length text ≡ count + length rest

-- the line ends with its LF
pub splits_lf : (text piece taken rest : List ℕ) → HasNoLf piece → text ≡ taken ++ rest → taken ≡ piece ++ 10 ∷ []
    → SplitsOff text (without_cr piece) (length taken) rest
splits_lf text piece taken rest none is lf =
    let whole : text ≡ piece ++ 10 ∷ rest = is ∙ ap (λ l. l ++ rest) lf ∙ append_assoc piece (10 ∷ []) rest in
    record {
      lines = ap lines_of whole ∙ ap (map without_cr) (pieces-lf piece rest none);
      size = ap length is ∙ length-append taken rest;
    }

-- bytes without an LF are one line, if there are any
pub lines-last : (piece : List ℕ) → HasNoLf piece → 0 < length piece → lines_of piece ≡ without_cr piece ∷ []
lines-last [] none some = absurd (omega arith)
lines-last (x ∷ piece) none some = ap (map without_cr) (pieces-last x piece none)

-- the line is the last, and has no LF
pub splits_last : (text piece taken rest : List ℕ) → HasNoLf piece → text ≡ taken ++ rest → taken ≡ piece
    → 0 < length piece → rest ≡ [] → SplitsOff text (without_cr piece) (length taken) rest
splits_last text piece taken rest none is same some end = record {
  lines = ap lines_of (is ∙ (λ i. same i ++ end i) ∙ append-nil piece) ∙ lines-last piece none some ∙ ap
      (λ l. without_cr piece ∷ lines_of l) (sym end);
  size = ap length is ∙ length-append taken rest;
}

-- the next line of a text that is known is the first of its lines, and the rest is known too
pub next_splits : (line : List ℕ) (count : ℕ) (text : List ℕ) (new : Option (List ℕ))
    → NextLine line count (Some text) new
    → (rest : List ℕ) × (new ≡ Some rest) × SplitsOff text line count rest
next_splits line count text None next = let e : Some text ≡ None = next.next.took in cc
next_splits line count text (Some rest) next =
    let is : text ≡ next.taken ++ rest = let e = next.next.took in cc in
    let split : SplitsOff text (without_cr next.piece) (length next.taken) rest = by_end next.next.ends is in (
      rest,
      refl,
      record {
        lines = split.lines ∙ ap (λ l. l ∷ lines_of rest) (sym next.is);
        size = split.size ∙ ap (λ n. n + length rest) (sym next.size);
      },
    )
  where
    by_end : (next.taken ≡ next.piece ++ 10 ∷ [])
        ⊎ ((next.taken ≡ next.piece) × (0 < length next.piece) × IsAtEnd (Some rest)) → text ≡ next.taken ++ rest
        → SplitsOff text (without_cr next.piece) (length next.taken) rest
    by_end (inl lf) is = splits_lf text next.piece next.taken rest next.next.no_lf is lf
    by_end (inr last) is = splits_last text next.piece next.taken rest next.next.no_lf is last.0 last.1 last.2

-- x stands before the pieces, whose first is known
one_more : (x : ℕ) (text : List ℕ) (more : List (List ℕ)) → before_first_piece x (pieces_of text)
    ≡ (x ∷ first_piece text) ∷ more
    → (more : List (List ℕ)) × (pieces_of (x ∷ text) ≡ first_piece (x ∷ text) ∷ more)
one_more x text more split = elim (cases_eq x 10) [
  | inl lf ↦ (pieces_of text, grind (arith, nat_tests))
  | inr other ↦
      let step : pieces_of (x ∷ text) ≡ before_first_piece x (pieces_of text) = grind (arith, nat_tests) in
      let piece : first_piece (x ∷ text) ≡ x ∷ first_piece text = grind (arith, nat_tests) in
      (more, step ∙ split ∙ ap (λ p. p ∷ more) (sym piece))
]

-- a text that isn't empty has its first piece
pub first_of : (x : ℕ) (text : List ℕ) → (more : List (List ℕ)) × (pieces_of (x ∷ text) ≡ first_piece (x ∷ text) ∷ more)
first_of x [] = one_more x [] [] refl
first_of x (y ∷ text) = let rest = first_of y text in one_more x (y ∷ text) rest.0 (ap (before_first_piece x) rest.1)

-- the first piece with its LF is no longer than the text
pub length-first_through : (text : List ℕ) → length (first_through text) ≤ length text
length-first_through [] = omega arith
length-first_through (x ∷ text) = let rest = length-first_through text in grind (arith, nat_tests)

-- the first line of a text that isn't empty is its first piece without a CR at its end
pub first_line : (x : ℕ) (text : List ℕ) → (more : List (List ℕ))
    × (lines_of (x ∷ text) ≡ without_cr (first_piece (x ∷ text)) ∷ more)
first_line x text = let first = first_of x text in (map without_cr first.0, ap (map without_cr) first.1)

-- a line and its LF before a text
pub lines-lf : (piece more : List ℕ) → HasNoLf piece → lines_of (piece ++ 10 ∷ more) ≡ without_cr piece ∷ lines_of more
lines-lf piece more none = ap (map without_cr) (pieces-lf piece more none)
