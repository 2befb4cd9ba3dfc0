-- The first error of a text whose first lines have none.
use Rattle.std.proofs.Common.{◌≡◌, ◌⊎◌, inl, inr, ℕ, suc, ◌+◌, ◌-◌, ◌<◌, ◌≤◌, List, [], ◌∷◌, ◌++◌, length, take, get_or, append_assoc, sym, ◌∙◌, ap, subst, arith}
use Rattle.std.proofs.lemmas.List.{length-append}
use Rattle.std.proofs.Math.Seq.{take-suc, take-append_seam, get_or-append_seam}
use Rattle.ht_inputs.proofs.Common.{AreFine, HasFront, HasLongLine, IsFirst, IsTooLong, RunError, lines_of}
use Rattle.ht_inputs.proofs.JudgedLaws.{get_front, take_front}

-- the first lines up to one are those before it and it
pub grown : (lines : List (List ℕ)) (count : ℕ) → count < length lines
    → take (count + 1) lines ≡ take count lines ++ get_or lines count [] ∷ []
grown lines count there =
    let same : count + 1 ≡ suc count = omega arith in
    ap (λ k. take k lines) same ∙ take-suc lines count [] there

-- the same of the line before line n
pub grown_to : (lines : List (List ℕ)) (n : ℕ) → 0 < n → n ≤ length lines
    → take n lines ≡ take (n - 1) lines ++ get_or lines (n - 1) [] ∷ []
grown_to lines n some within =
    let same : n ≡ n - 1 + 1 = omega (arith, some) in
    ap (λ k. take k lines) same ∙ grown lines (n - 1) (omega (arith, some, within))

-- ---- a front of a text

-- and so are the lines before one
pub shorter : (before : List (List ℕ)) (line text : List ℕ) → HasFront (before ++ line ∷ []) text → HasFront before text
shorter before line text front = record {
  more = line ∷ front.more;
  lines_are = front.lines_are ∙ append_assoc before (line ∷ []) front.more;
  short = λ n upto. front.short n (omega (arith, upto, length-append before (line ∷ [])));
}

-- a line and those before it, by its number
pub front_is : (before : List (List ℕ)) (line text : List ℕ) → HasFront (before ++ line ∷ []) text
    → (length before < length (lines_of text)) × (take (length before + 1) (lines_of text) ≡ before ++ line ∷ [])
front_is before line text front =
    let size = length-append before (line ∷ []) in
    let whole = length-append (before ++ line ∷ []) front.more in (
      omega (arith, ap length front.lines_are, size, whole),
      ap (λ k. take k (lines_of text)) (sym size) ∙ ap (take (length (before ++ line ∷ []))) front.lines_are
          ∙ take-append_seam (before ++ line ∷ []) front.more,
    )

-- the line that comes next
pub next_is : (most : ℕ) (before : List (List ℕ)) (text : List ℕ) → (long : HasLongLine most before text)
    → take (length before + 1) (lines_of text) ≡ before ++ get_or (lines_of text) (length before) [] ∷ []
next_is most before text long = grown (lines_of text) (length before) long.there
    ∙ ap (λ l. l ++ get_or (lines_of text) (length before) [] ∷ [])
    (ap (take (length before)) long.front.lines_are ∙ take-append_seam before long.front.more)

-- ---- the first trouble

module _ (IsWrong : List (List ℕ) → List ℕ → RunError → Type 0) (text : List ℕ) where
  -- line n is there and has this error after those before it
  pub record HasTroubleAt (n : ℕ) (error : RunError) : Type 0 where
    pub counted : (0 < n) × (n ≤ length (lines_of text))
    pub wrong : IsWrong (take (n - 1) (lines_of text)) (get_or (lines_of text) (n - 1) []) error

  -- a line that is wrong after those before it is the text's trouble at its number
  pub at_line : (before : List (List ℕ)) (line : List ℕ) → HasFront (before ++ line ∷ []) text → (error : RunError)
      → IsWrong before line error → HasTroubleAt (length before + 1) error
  at_line before line front error wrong =
      let after = line ∷ front.more in
      let whole : lines_of text ≡ before ++ after = front.lines_are ∙ append_assoc before (line ∷ []) front.more in
      let one : length before ≡ length before + 1 - 1 = omega arith in
      let there = (front_is before line text front).0 in
      record {
        counted = (omega arith, omega (arith, there));
        wrong = subst (λ k. IsWrong (take k (lines_of text)) (get_or (lines_of text) k []) error) one
            (subst (λ l. IsWrong (take (length before) l) (get_or l (length before) []) error) (sym whole)
            (subst (λ l. IsWrong l (get_or (before ++ after) (length before) []) error)
            (sym (take-append_seam before after))
            (subst (λ l. IsWrong before l error) (sym (get_or-append_seam before line front.more [])) wrong)));
      }

  -- something is wrong at line n: with the line, or at the end of the text, or it gets too long there
  abbrev pub IsWrongAt : ℕ → Type 0
  IsWrongAt n = ((error : RunError) × HasTroubleAt n error) ⊎ ((length (lines_of text) < n) ⊎ IsTooLong text n)

  module _ (before : List (List ℕ)) (fine : AreFine IsWrong before) (front : HasFront before text) where
    none_before : (n : ℕ) → n < length before + 1 → ¬ IsWrongAt n
    none_before n lt (inl (error, at)) =
        let inside : n - 1 < length before = omega (arith, lt, at.counted.0) in
        fine (n - 1) error inside
        (subst (λ l. IsWrong l (get_or before (n - 1) []) error)
        (take_front before front.more (lines_of text) (n - 1) front.lines_are (omega (arith, inside)))
        (subst (λ l. IsWrong (take (n - 1) (lines_of text)) l error)
        (get_front before front.more (lines_of text) (n - 1) front.lines_are inside) at.wrong))
    none_before n lt (inr (inl late)) =
        omega (arith, lt, late, ap length front.lines_are, length-append before front.more)
    none_before n lt (inr (inr long)) = front.short n (omega (arith, lt)) long

    -- so the first trouble, of whatever kind, is at the line after these
    pub first_after : (IsTrouble : ℕ → Type 0) → ((n : ℕ) → IsTrouble n → IsWrongAt n) → (n : ℕ)
        → n ≡ length before + 1 → IsTrouble (length before + 1) → IsFirst IsTrouble n
    first_after IsTrouble parts n is wrong = subst (IsFirst IsTrouble) (sym is) (record {
      wrong = wrong;
      first = λ m lt at. none_before m lt (parts m at);
    })
