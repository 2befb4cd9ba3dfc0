-- The line that comes next in a text that is read line by line.
use Rattle.std.proofs.Common.{◌≡◌, ◌⊎◌, inl, inr, ℕ, ◌+◌, ◌<◌, ◌≤◌, List, [], ◌∷◌, ◌++◌, length, take, get_or, ◌∙◌, ap, arith}
use Rattle.std.proofs.lemmas.List.{length-append}
use Rattle.std.proofs.Math.Seq.{take-append_seam, get_or-append_seam}
use Rattle.ht_inputs.proofs.Common.{IsTooLong, IsTooLongLine, LinesSoFar, lines_of, max_text_bytes, without_cr}
use Rattle.ht_ports.specs.LineRule.{first_piece}
use Rattle.ht_ports.proofs.TextLaws.{first_line}
use Rattle.ht_texts.proofs.LinesSoFarLaws.{next_line_is_too_long}

pub record IsNextLine (text : List ℕ) (lines : List (List ℕ)) (line : List ℕ) : Type 0 where
  pub there : length lines < length (lines_of text)
  pub before : take (length lines) (lines_of text) ≡ lines
  pub at : get_or (lines_of text) (length lines) [] ≡ line

next_is : (text : List ℕ) (passed : ℕ) (lines : List (List ℕ)) (rest : List ℕ)
    → LinesSoFar text passed lines rest → (line : List ℕ) (more : List (List ℕ)) → lines_of rest ≡ line ∷ more
    → IsNextLine text lines line
next_is text passed lines rest so line more is =
    let whole : lines_of text ≡ lines ++ line ∷ more = so.lines_are ∙ ap (λ l. lines ++ l) is in
    record {
      there = omega (arith, ap length whole, length-append lines (line ∷ more));
      before = ap (take (length lines)) whole ∙ take-append_seam lines (line ∷ more);
      at = ap (λ l. get_or l (length lines) []) whole ∙ get_or-append_seam lines line more [];
    }

-- The next line has more bytes than this, or the text becomes too long in it.
pub record IsNextLong (most : ℕ) (text : List ℕ) (lines : List (List ℕ)) : Type 0 where
  pub line : List ℕ
  pub next : IsNextLine text lines line
  pub long : (most < length line) ⊎ IsTooLong text (length lines + 1)

-- if what is left of a text begins with too long a line, the text's next line is too long
pub next_is_long : (most : ℕ) (text : List ℕ) (passed : ℕ) (lines : List (List ℕ)) (rest : List ℕ)
    → LinesSoFar text passed lines rest → passed ≤ max_text_bytes → IsTooLongLine most passed rest
    → IsNextLong most text lines
next_is_long most text passed lines [] so fits (inl long) = absurd (omega arith)
next_is_long most text passed lines [] so fits (inr late) = absurd (omega (arith, fits, late))
next_is_long most text passed lines (x ∷ rest) so fits long =
    let first = first_line x rest in
    record {
      line = without_cr (first_piece (x ∷ rest));
      next = next_is text passed lines (x ∷ rest) so (without_cr (first_piece (x ∷ rest))) first.0 first.1;
      long = elim long [
        | inl wide ↦ inl wide
        | inr late ↦ inr (next_line_is_too_long text passed lines (x ∷ rest) so fits late)
      ];
    }
