-- The line rule: a text is split after each LF, and a line has neither its LF nor one CR at its end.
use Rattle.std.specs.Prelude.{◌≡◌, ◌≢◌, ◌==◌, ℕ, ◌+◌, ◌-◌, ◌^◌, ◌<◌, ◌⊎◌, List, [], ◌∷◌, ◌++◌, length, take, slice_index, if◌then◌else◌, map}
use Rattle.std.specs.declared.option.Option.{Option}
use Rattle.std.specs.Io.KnownBytes.{prepend_known, IsAtEnd}

-- x stands before the first piece
abbrev pub before_first_piece : ℕ → List (List ℕ) → List (List ℕ)
before_first_piece x [] = (x ∷ []) ∷ []
before_first_piece x (piece ∷ pieces) = (x ∷ piece) ∷ pieces

-- the pieces between the LFs; what stands after the last LF is one if it isn't empty
abbrev pub pieces_of : List ℕ → List (List ℕ)
pieces_of [] = []
pieces_of (x ∷ text) = if x == 10 then [] ∷ pieces_of text else before_first_piece x (pieces_of text)

-- without one CR at the end
abbrev pub without_cr : List ℕ → List ℕ
without_cr piece = if slice_index piece (length piece - 1) == 13 then take (length piece - 1) piece else piece

-- the lines of a text
abbrev pub lines_of : List ℕ → List (List ℕ)
lines_of text = map without_cr (pieces_of text)

-- the bytes before the first LF
abbrev pub first_piece : List ℕ → List ℕ
first_piece [] = []
first_piece (x ∷ text) = if x == 10 then [] else x ∷ first_piece text

-- the same with that LF
abbrev pub first_through : List ℕ → List ℕ
first_through [] = []
first_through (x ∷ text) = if x == 10 then x ∷ [] else x ∷ first_through text

-- the greatest length of a text, in bytes
abbrev pub max_text_bytes : ℕ
max_text_bytes = 2 ^ 62

-- the line of a piece is too long, or ends after the greatest length of a text
abbrev pub IsTooLongPiece : ℕ → ℕ → List ℕ → Type 0
IsTooLongPiece max_len end piece = (max_len < length (without_cr piece)) ⊎ (max_text_bytes < end)

-- the same of the first line of a text that stands after some bytes
abbrev pub IsTooLongLine : ℕ → ℕ → List ℕ → Type 0
IsTooLongLine max_len bytes_read text =
    IsTooLongPiece max_len (bytes_read + length (first_through text)) (first_piece text)

-- ---- one line at a time, where a text may be known in part

-- no byte is an LF
abbrev pub HasNoLf : List ℕ → Type 0
HasNoLf bytes = (k : ℕ) → k < length bytes → slice_index bytes k ≢ 10

-- these bytes are taken: a piece and its LF, or all that is left, without an LF
pub record NextPiece (piece taken : List ℕ) (old new : Option (List ℕ)) : Type 0 where
  pub no_lf : HasNoLf piece
  pub took : old ≡ prepend_known taken new
  pub ends : (taken ≡ piece ++ 10 ∷ []) ⊎ ((taken ≡ piece) × (0 < length piece) × IsAtEnd new)

-- the line of that piece, of `count` bytes with its end
pub record NextLine (line : List ℕ) (count : ℕ) (old new : Option (List ℕ)) : Type 0 where
  pub piece : List ℕ
  pub taken : List ℕ
  pub next : NextPiece piece taken old new
  pub is : line ≡ without_cr piece
  pub size : count ≡ length taken
