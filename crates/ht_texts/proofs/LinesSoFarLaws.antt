-- A text that is read line by line: its first lines, and the rest that is still to come.
use Rattle.std.proofs.Common.{◌≡◌, ◌⊎◌, inl, inr, ℕ, ◌+◌, ◌-◌, ◌<◌, ◌≤◌, List, [], ◌∷◌, ◌++◌, length, take, Some, None, Option, append_assoc, append-nil, refl, sym, ◌∙◌, ap, arith}
use Rattle.std.specs.Io.KnownBytes.{IsAtEnd}
use Rattle.std.proofs.lemmas.List.{length-append}
use Rattle.std.proofs.Math.Seq.{take-append-add}
use Rattle.ht_ports.specs.LineRule.{NextLine, lines_of, first_through, max_text_bytes}
use Rattle.ht_ports.proofs.TextLaws.{next_splits, length-first_through}
use Rattle.ht_texts.specs.Tests.{lf_count, line_of_byte, IsTooLong}
use Rattle.ht_texts.proofs.LfLaws.{lf_count-append, lf_count-take, no_lf_count}

-- The text begins with these lines, of so many bytes with their ends, and the rest comes after them.
pub record LinesSoFar (text : List ℕ) (passed : ℕ) (lines : List (List ℕ)) (rest : List ℕ) : Type 0 where
  pub front : List ℕ
  pub whole : text ≡ front ++ rest
  pub size : length front ≡ passed
  pub lfs : 0 < length rest → lf_count front ≡ length lines
  pub lines_are : lines_of text ≡ lines ++ lines_of rest

-- at the start no line of a text is read, and the whole text is still to come
pub lines_start : (text : List ℕ) → LinesSoFar text 0 [] text
lines_start text = record { front = []; whole = refl; size = refl; lfs = λ _. refl; lines_are = refl }

-- the bytes of one line more
line_taken : (line : List ℕ) (count : ℕ) (rest after : List ℕ) → NextLine line count (Some rest) (Some after)
    → (taken : List ℕ) × (rest ≡ taken ++ after) × (count ≡ length taken) × (0 < length after → lf_count taken ≡ 1)
line_taken line count rest after next =
    let is : rest ≡ next.taken ++ after = let e = next.next.took in cc in
    (next.taken, is, next.size, λ more. one next.next.ends more)
  where
    one : (next.taken ≡ next.piece ++ 10 ∷ [])
        ⊎ ((next.taken ≡ next.piece) × (0 < length next.piece) × IsAtEnd (Some after)) → 0 < length after
        → lf_count next.taken ≡ 1
    one (inl lf) more = ap lf_count lf ∙ lf_count-append next.piece (10 ∷ []) ∙ ap (λ n. n + 1)
        (no_lf_count next.piece next.next.no_lf)
    one (inr last) more = let end : after ≡ [] = last.2 in absurd (omega (arith, more, ap length end))

-- one line more
pub lines_next : (text : List ℕ) (passed : ℕ) (lines : List (List ℕ)) (rest line : List ℕ) (count : ℕ)
    (new : Option (List ℕ)) → LinesSoFar text passed lines rest → NextLine line count (Some rest) new
    → (after : List ℕ) × (new ≡ Some after) × (lines_of rest ≡ line ∷ lines_of after)
    × LinesSoFar text (passed + count) (lines ++ line ∷ []) after
lines_next text passed lines rest line count None so next = let e : Some rest ≡ None = next.next.took in cc
lines_next text passed lines rest line count (Some after) so next =
    let split = next_splits line count rest (Some after) next in
    let same : split.0 ≡ after = let e = split.1 in cc in
    let taken = line_taken line count rest after next in
    let now : lines_of rest ≡ line ∷ lines_of after = split.2.lines ∙ ap (λ l. line ∷ lines_of l) same in (
      after,
      refl,
      now,
      record {
        front = so.front ++ taken.0;
        whole = so.whole ∙ ap (λ l. so.front ++ l) taken.1 ∙ sym (append_assoc so.front taken.0 after);
        size = length-append so.front taken.0 ∙ omega (arith, so.size, taken.2);
        lfs = λ more.
            let before = so.lfs (let l = ap length taken.1 ∙ length-append taken.0 after in omega (arith, l, more)) in
            lf_count-append so.front taken.0 ∙ omega (arith, before, taken.3 more, length-append lines (line ∷ []));
        lines_are = so.lines_are ∙ ap (λ l. lines ++ l) now
            ∙ sym (append_assoc lines (line ∷ []) (lines_of after));
      },
    )

-- at the end all lines were read
pub lines_end : (text : List ℕ) (passed : ℕ) (lines : List (List ℕ)) → LinesSoFar text passed lines []
    → (lines_of text ≡ lines) × (length text ≡ passed)
lines_end text passed lines so = (
  so.lines_are ∙ append-nil lines,
  omega (arith, ap length so.whole, length-append so.front [], so.size),
)

-- ---- the lines by number

-- ---- where a text gets too long

-- the byte at which it does comes after the lines so far
byte_line : (text : List ℕ) (passed : ℕ) (lines : List (List ℕ)) (rest : List ℕ)
    → LinesSoFar text passed lines rest → 0 < length rest → passed ≤ max_text_bytes
    → line_of_byte text max_text_bytes ≡ length lines + lf_count (take (max_text_bytes - passed) rest) + 1
byte_line text passed lines rest so some fits =
    let split : length so.front + (max_text_bytes - passed) ≡ max_text_bytes = omega (arith, so.size, fits) in
    let front : take max_text_bytes text ≡ so.front ++ take (max_text_bytes - passed) rest =
    ap (λ n. take n text) (sym split) ∙ ap (λ t. take (length so.front + (max_text_bytes - passed)) t) so.whole
    ∙ take-append-add so.front rest (max_text_bytes - passed) in
    ap (λ l. lf_count l + 1) front
    ∙ ap (λ n. n + 1) (lf_count-append so.front (take (max_text_bytes - passed) rest))
    ∙ ap (λ n. n + lf_count (take (max_text_bytes - passed) rest) + 1) (so.lfs some)

-- it isn't in a line that was read
pub read_lines_fit : (text : List ℕ) (passed : ℕ) (lines : List (List ℕ)) (rest : List ℕ) (n : ℕ)
    → LinesSoFar text passed lines rest → passed ≤ max_text_bytes → n ≤ length lines → ¬ IsTooLong text n
read_lines_fit text passed lines [] n so fits read long =
    omega (arith, fits, long.long, (lines_end text passed lines so).1)
read_lines_fit text passed lines (x ∷ rest) n so fits read long =
    omega (arith, read, long.line, byte_line text passed lines (x ∷ rest) so (omega arith) fits)

-- it is in the line that comes next, if that ends after the greatest length of a text
pub next_line_is_too_long : (text : List ℕ) (passed : ℕ) (lines : List (List ℕ)) (rest : List ℕ)
    → LinesSoFar text passed lines rest → passed ≤ max_text_bytes
    → max_text_bytes < passed + length (first_through rest) → IsTooLong text (length lines + 1)
next_line_is_too_long text passed lines [] so fits late = absurd (omega (arith, fits, late))
next_line_is_too_long text passed lines (x ∷ rest) so fits late =
    let line = byte_line text passed lines (x ∷ rest) so (omega arith) fits in
    let none = lf_count-take (x ∷ rest) (max_text_bytes - passed) (omega (arith, late, fits)) in
    let within = length-first_through (x ∷ rest) in record {
      long = omega (arith, late, ap length so.whole, length-append so.front (x ∷ rest), so.size, within);
      line = omega (arith, line, none);
    }
