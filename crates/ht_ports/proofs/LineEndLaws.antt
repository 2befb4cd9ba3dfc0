-- Where a line ends.
use Rattle.std.proofs.Common.{◌≡◌, inl, inr, ℕ, ◌+◌, ◌<◌, ◌≤◌, ◌⊎◌, List, [], ◌∷◌, ◌++◌, length, take, drop, Some, None, ⊎_elim, append_assoc, append-nil, take_all, take-append-drop, le_refl, sym, ◌∙◌, ap, subst, arith}
use Rattle.std.proofs.lemmas.List.{length-append, length-take-le, drop_more, take_more, take-take}
use Rattle.std.proofs.lemmas.Bool.{cases_lt}
use Rattle.ht_ports.specs.LineRule.{HasNoLf, first_piece, first_through, without_cr, max_text_bytes, IsTooLongLine}
use Rattle.ht_ports.specs.Buffer.{IsFirstLf}
use Rattle.ht_ports.specs.LineEnd.{IsLineEnd, EndsPiece}
use Rattle.ht_ports.specs.declared.line_end.LineEnd.{LineEnd}
use Rattle.ht_ports.specs.declared.line_end.LineEnd.TheVariants.{NoLine, TooLong, Line}
use Rattle.ht_ports.proofs.PieceLaws.{first_piece-lf, first_through-lf, first_piece-none, first_through-none, length-without_cr}

-- the text from its first LF on
lf_split : (bytes : List ℕ) (i : ℕ) → IsFirstLf bytes i → bytes ≡ take i bytes ++ 10 ∷ drop (i + 1) bytes
lf_split bytes i lf =
    sym (take-append-drop i bytes) ∙ ap (λ l. take i bytes ++ l)
    (drop_more bytes i 0 lf.within ∙ ap (λ x. x ∷ drop (i + 1) bytes) lf.lf)

lf_through : (bytes : List ℕ) (i : ℕ) → IsFirstLf bytes i → take (i + 1) bytes ≡ take i bytes ++ 10 ∷ []
lf_through bytes i lf = take_more bytes i 0 lf.within ∙ ap (λ x. take i bytes ++ x ∷ []) lf.lf

lf_piece : (bytes more : List ℕ) (i : ℕ) → IsFirstLf bytes i → first_piece (bytes ++ more) ≡ take i bytes
lf_piece bytes more i lf =
    ap (λ l. first_piece (l ++ more)) (lf_split bytes i lf)
    ∙ ap first_piece (append_assoc (take i bytes) (10 ∷ drop (i + 1) bytes) more)
    ∙ first_piece-lf (take i bytes) (drop (i + 1) bytes ++ more) lf.before

lf_length : (bytes more : List ℕ) (i : ℕ) → IsFirstLf bytes i → length (first_through (bytes ++ more)) ≡ i + 1
lf_length bytes more i lf =
    let whole : first_through (bytes ++ more) ≡ take i bytes ++ 10 ∷ [] =
    ap (λ l. first_through (l ++ more)) (lf_split bytes i lf)
    ∙ ap first_through (append_assoc (take i bytes) (10 ∷ drop (i + 1) bytes) more)
    ∙ first_through-lf (take i bytes) (drop (i + 1) bytes ++ more) lf.before in
    ap length whole ∙ length-append (take i bytes) (10 ∷ []) ∙ ap (λ n. n + 1)
    (length-take-le i bytes (omega (arith, lf.within)))

-- where the first LF is known, the answer for the piece before it is the answer for the bytes that wait
pub ends_at_lf : (max_len bytes_read : ℕ) (bytes : List ℕ) (i : ℕ) (r : LineEnd) → IsFirstLf bytes i
    → EndsPiece max_len bytes_read (take i bytes) (i + 1) r → IsLineEnd max_len bytes_read bytes (Some i) r
ends_at_lf max_len bytes_read bytes i NoLine lf e = absurd e
ends_at_lf max_len bytes_read bytes i TooLong lf e = λ more _. ⊎_elim
    (λ long. inl (subst (λ p. max_len < length (without_cr p)) (sym (lf_piece bytes more i lf)) long))
    (λ late. inr (subst (λ n. max_text_bytes < bytes_read + n) (sym (lf_length bytes more i lf)) late)) e
ends_at_lf max_len bytes_read bytes i (Line line taken) lf (end, is) =
    let long : length (take i bytes) ≡ i = length-take-le i bytes (omega (arith, lf.within)) in
    let in_line : line ≤ i = omega (arith, is.in_piece, long) in
    record {
      piece = take i bytes;
      no_lf = lf.before;
      is = sym (take-take line i bytes in_line) ∙ is.is;
      length_is = length-take-le line bytes (omega (arith, in_line, lf.within));
      in_line = omega (arith, in_line, end);
      within = omega (arith, lf.within, end);
      ends = ap (λ n. take n bytes) end ∙ lf_through bytes i lf;
      short = is.short;
      early = omega (arith, is.early, end);
      some = omega (arith, end);
      few = tt;
    }

-- too many bytes for a line without an LF, however the text goes on
over : (max_len bytes_read : ℕ) (bytes more : List ℕ) → HasNoLf bytes
    → (max_len + 1 < length bytes) ⊎ (max_text_bytes < bytes_read + length bytes)
    → IsTooLongLine max_len bytes_read (bytes ++ more)
over max_len bytes_read bytes more none many =
    let piece : length (first_piece (bytes ++ more)) ≡ length bytes + length (first_piece more) = ap length
    (first_piece-none bytes more none) ∙ length-append bytes (first_piece more) in
    let through : length (first_through (bytes ++ more)) ≡ length bytes + length (first_through more) = ap length
    (first_through-none bytes more none) ∙ length-append bytes (first_through more) in
    let line = length-without_cr (first_piece (bytes ++ more)) in
    ⊎_elim (λ long. inl (omega (arith, long, line, piece))) (λ late. inr (omega (arith, late, through))) many

-- the piece is all that is left
alone : (max_len bytes_read : ℕ) (bytes : List ℕ) → HasNoLf bytes
    → EndsPiece max_len bytes_read bytes (length bytes) TooLong → IsTooLongLine max_len bytes_read (bytes ++ [])
alone max_len bytes_read bytes none = ⊎_elim
    (λ long. inl (subst (λ p. max_len < length (without_cr p)) (sym piece) long))
    (λ late. inr (subst (λ p. max_text_bytes < bytes_read + length p) (sym through) late))
  where
    piece : first_piece (bytes ++ []) ≡ bytes
    piece = first_piece-none bytes [] none ∙ append-nil bytes

    through : first_through (bytes ++ []) ≡ bytes
    through = first_through-none bytes [] none ∙ append-nil bytes

-- where no LF waits but some byte does, the answer for all bytes as one piece is the answer for them
pub ends_with_text : (max_len bytes_read : ℕ) (bytes : List ℕ) (r : LineEnd) → HasNoLf bytes → 0 < length bytes
    → EndsPiece max_len bytes_read bytes (length bytes) r → IsLineEnd max_len bytes_read bytes None r
ends_with_text max_len bytes_read bytes NoLine none some e = absurd e
ends_with_text max_len bytes_read bytes TooLong none some e = λ more last. elim
    (cases_lt (max_len + 1) (length bytes)) [
      | inl long ↦ over max_len bytes_read bytes more none (inl long)
      | inr few ↦ elim (cases_lt max_text_bytes (bytes_read + length bytes)) [
        | inl late ↦ over max_len bytes_read bytes more none (inr late)
        | inr early ↦ subst (λ m. IsTooLongLine max_len bytes_read (bytes ++ m))
            (sym (last (record { line = few; text = early }))) (alone max_len bytes_read bytes none e)
      ]
    ]
ends_with_text max_len bytes_read bytes (Line line taken) none some (end, is) = record {
  piece = bytes;
  no_lf = none;
  is = is.is;
  length_is = long;
  in_line = omega (arith, is.in_piece, end);
  within = omega (arith, end);
  ends = (ap (λ n. take n bytes) end ∙ take_all (length bytes) bytes (le_refl _), some, end);
  short = is.short;
  early = omega (arith, is.early, end);
  some = omega (arith, some, end);
  few = record {
    line = omega (arith, length-without_cr bytes, ap length is.is, long, is.short);
    text = is.early;
  };
}
  where
    long : length (take line bytes) ≡ line
    long = length-take-le line bytes is.in_piece
