-- Lines of pieces: pieces that are added one after the other, and lines whose pieces fit.
use Rattle.std.proofs.Common.{◌≡◌, ◌≢◌, ◌==◌, ℕ, ◌+◌, ◌%◌, ◌^◌, ◌<◌, ◌≤◌, true, List, [], ◌∷◌, ◌++◌, length, append_assoc, append-nil, length-append, refl, sym, ap, ◌∙◌, subst, arith}
use Rattle.std.specs.Prelude.{not, codes}
use Rattle.std.specs.Fmt.{decimal}
use Rattle.std.specs.List.{list_all}
use Rattle.std.proofs.lemmas.Bool.{and_from, not_from_false, ne_eqb}
use Rattle.std.proofs.lemmas.Fmt.{decimal_by_steps, length-decimal-le}
use Rattle.std.proofs.lemmas.List.Folds.{list_all-append}
use Rattle.std.proofs.lemmas.List.Sums.{fold-append}
use Rattle.ht_texts.specs.declared.limits.TheConstants.{MAX_LINE_BYTES}
use Rattle.ht_texts.specs.LineLengths.{IsShortLine}
use Rattle.ht_texts.specs.Lines.{with_lf}
use Rattle.ht_texts.specs.Pieces.{Piece, word, number, name, piece_text, add_pieces, pieces_text}
use Rattle.ht_texts.specs.SearchReports.{is_line_byte, max_short_name_bytes}
use Rattle.ht_texts.proofs.LineLaws.{ArePlain}

-- ---- one after the other

-- what is added stands after the text
pub added : (text : List ℕ) (pieces : List Piece) → add_pieces text pieces ≡ text ++ pieces_text pieces
added text [] = sym (append-nil text)
added text (piece ∷ pieces) =
    added (text ++ piece_text piece) pieces
    ∙ append_assoc text (piece_text piece) (pieces_text pieces)
    ∙ ap (λ t. text ++ t) (sym (added (piece_text piece) pieces))

-- the text of two lists of pieces joined is that of the first and then that of the second
pub pieces_both : (a b : List Piece) → pieces_text (a ++ b) ≡ pieces_text a ++ pieces_text b
pieces_both a b = fold-append (λ so_far piece. so_far ++ piece_text piece) [] a b ∙ added (pieces_text a) b

-- a list of pieces that is added after another is added with it as one list
pub added_both : (text : List ℕ) (a b : List Piece) → add_pieces (add_pieces text a) b ≡ add_pieces text (a ++ b)
added_both text a b = sym (fold-append (λ so_far piece. so_far ++ piece_text piece) text a b)

-- a line of pieces stands after the text
pub line_added : (text : List ℕ) (pieces : List Piece)
    → add_pieces text pieces ++ codes "\n" ≡ text ++ with_lf (pieces_text pieces)
line_added text pieces =
    ap (λ t. t ++ codes "\n") (added text pieces) ∙ append_assoc text (pieces_text pieces) (codes "\n")

-- ---- plain bytes

abbrev pub IsShortName : List ℕ → Type 0
IsShortName bytes = length bytes ≤ max_short_name_bytes

plain_both : (a b : List ℕ) → ArePlain a → ArePlain b → ArePlain (a ++ b)
plain_both a b of_a of_b =
    list_all-append is_line_byte a b ∙ and_from (list_all is_line_byte a) (list_all is_line_byte b) of_a of_b

plain_byte : (byte : ℕ) → byte ≢ 10 → byte ≢ 13 → ArePlain (byte ∷ [])
plain_byte byte no_lf no_cr = and_from (is_line_byte byte) true
    (and_from (not (byte == 10)) (not (byte == 13)) (not_from_false (byte == 10) (ne_eqb byte 10 no_lf))
    (not_from_false (byte == 13) (ne_eqb byte 13 no_cr))) refl

plain_decimal : (n : ℕ) → n < 2 ^ 64 → ArePlain (decimal n)
plain_decimal n small = decimal_by_steps (λ _ digits. ArePlain digits)
    (λ d below. plain_byte (48 + d) (λ e. omega (arith, e)) (λ e. omega (arith, e)))
    (λ m digits big so_far. plain_both digits ((48 + m % 10) ∷ []) so_far
    (plain_byte (48 + m % 10) (λ e. omega (arith, e)) (λ e. omega (arith, e)))) n small

-- ---- pieces that fit

-- a word is plain, a number fits 64 bits, and a name is of this kind
abbrev pub Fits : (List ℕ → Type 0) → Piece → Type 0
Fits IsName (word bytes) = ArePlain bytes
Fits IsName (number n) = n < 2 ^ 64
Fits IsName (name bytes) = IsName bytes

-- each piece fits
abbrev pub AllFit : (List ℕ → Type 0) → List Piece → Type 0
AllFit IsName [] = Unit {0}
AllFit IsName (piece ∷ pieces) = Fits IsName piece × AllFit IsName pieces

-- how many bytes a piece has at most
abbrev piece_size : Piece → ℕ
piece_size (word bytes) = length bytes
piece_size (number n) = 20
piece_size (name bytes) = max_short_name_bytes

-- how many bytes pieces have at most
abbrev pub pieces_size : List Piece → ℕ
pieces_size [] = 0
pieces_size (piece ∷ pieces) = piece_size piece + pieces_size pieces

-- pieces that fit, and no more bytes than so many
pub record FitIn (IsName : List ℕ → Type 0) (most : ℕ) (pieces : List Piece) : Type 0 where
  pub fit : AllFit IsName pieces
  pub size : pieces_size pieces ≤ most

both_fit : (IsName : List ℕ → Type 0) (a b : List Piece) → AllFit IsName a → AllFit IsName b → AllFit IsName (a ++ b)
both_fit IsName [] b of_a of_b = of_b
both_fit IsName (piece ∷ a) b of_a of_b = (of_a.0, both_fit IsName a b of_a.1 of_b)

both_size : (a b : List Piece) → pieces_size (a ++ b) ≡ pieces_size a + pieces_size b
both_size [] b = omega arith
both_size (piece ∷ a) b = omega (arith, both_size a b)

-- pieces that fit in m bytes and pieces that fit in n fit in m + n together
pub fit_both : {IsName : List ℕ → Type 0} {m n : ℕ} {a b : List Piece} → FitIn IsName m a → FitIn IsName n b
    → FitIn IsName (m + n) (a ++ b)
fit_both {IsName = IsName} {a = a} {b = b} of_a of_b = record {
  fit = both_fit IsName a b of_a.fit of_b.fit;
  size = omega (arith, both_size a b, of_a.size, of_b.size);
}

-- a line of pieces that fit, which isn't long
pub record IsFitLine (IsName : List ℕ → Type 0) (line : List ℕ) : Type 0 where
  pub pieces : List Piece
  pub fit : FitIn IsName MAX_LINE_BYTES pieces
  pub is : line ≡ pieces_text pieces

-- pieces that fit in no more bytes than a line may have make a line that fits
pub fit_line : {IsName : List ℕ → Type 0} {most : ℕ} {pieces : List Piece} → FitIn IsName most pieces
    → most ≤ MAX_LINE_BYTES → IsFitLine IsName (pieces_text pieces)
fit_line {pieces = pieces} fit room = record {
  pieces = pieces;
  fit = record { fit = fit.fit; size = omega (arith, fit.size, room) };
  is = refl;
}

-- ---- what fits is plain, or short

plain_piece : (piece : Piece) → Fits ArePlain piece → ArePlain (piece_text piece)
plain_piece (word bytes) fits = fits
plain_piece (number n) fits = plain_decimal n fits
plain_piece (name bytes) fits = fits

plain_added : (text : List ℕ) (pieces : List Piece) → ArePlain text → AllFit ArePlain pieces
    → ArePlain (add_pieces text pieces)
plain_added text [] of_text fit = of_text
plain_added text (piece ∷ pieces) of_text fit =
    plain_added (text ++ piece_text piece) pieces
    (plain_both text (piece_text piece) of_text (plain_piece piece fit.0)) fit.1

-- a line that fits has no LF and no CR, if its names have none
pub fit_is_plain : (line : List ℕ) → IsFitLine ArePlain line → ArePlain line
fit_is_plain line is = subst ArePlain (sym is.is) (plain_added [] is.pieces refl is.fit.fit)

short_piece : (piece : Piece) → Fits IsShortName piece → length (piece_text piece) ≤ piece_size piece
short_piece (word bytes) fits = omega arith
short_piece (number n) fits = length-decimal-le 20 n (omega arith) (omega (arith, fits)) fits
short_piece (name bytes) fits = fits

short_added : (text : List ℕ) (pieces : List Piece) → AllFit IsShortName pieces
    → length (add_pieces text pieces) ≤ length text + pieces_size pieces
short_added text [] fit = omega arith
short_added text (piece ∷ pieces) fit = omega (
  arith,
  short_added (text ++ piece_text piece) pieces fit.1,
  length-append text (piece_text piece),
  short_piece piece fit.0,
)

-- a line that fits is short, if its names are
pub fit_is_short : (line : List ℕ) → IsFitLine IsShortName line → IsShortLine line
fit_is_short line is =
    subst IsShortLine (sym is.is) (omega (arith, short_added [] is.pieces is.fit.fit, is.fit.size))
