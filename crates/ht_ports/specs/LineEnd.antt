-- Where the first line of the bytes that wait ends, and whether it is too long.
use Rattle.std.specs.Prelude.{◌≡◌, ℕ, ◌+◌, ◌<◌, ◌≤◌, ◌++◌, List, [], ◌∷◌, length, take, MatchOption, IfNone}
use Rattle.std.specs.declared.option.Option.{Option}
use Rattle.ht_ports.specs.LineRule.{HasNoLf, IsTooLongLine, IsTooLongPiece, max_text_bytes, without_cr}
use Rattle.ht_ports.specs.declared.line_end.LineEnd.{LineEnd}
use Rattle.ht_ports.specs.declared.line_end.LineEnd.TheVariants.{NoLine, TooLong, Line}

-- n bytes without an LF are not too many yet: with a CR at their end they may be a line
pub record MayBeLine (max_len bytes_read n : ℕ) : Type 0 where
  pub line : n ≤ max_len + 1
  pub text : bytes_read + n ≤ max_text_bytes

-- the line ends after `taken` bytes
pub record EndsLine (max_len bytes_read : ℕ) (bytes : List ℕ) (line taken : ℕ) (found : Option ℕ) : Type 0 where
  pub piece : List ℕ
  pub no_lf : HasNoLf piece
  pub is : take line bytes ≡ without_cr piece
  pub length_is : length (take line bytes) ≡ line
  pub in_line : line ≤ taken
  pub within : taken ≤ length bytes
  pub ends : MatchOption found ((take taken bytes ≡ piece) × (0 < length piece) × (taken ≡ length bytes))
      (λ _. take taken bytes ≡ piece ++ 10 ∷ [])
  pub short : line ≤ max_len
  pub early : bytes_read + taken ≤ max_text_bytes
  pub some : 0 < taken
  pub few : IfNone found (MayBeLine max_len bytes_read (length bytes))

-- the next line is too long, however the text goes on
abbrev pub IsSurelyTooLong : ℕ → ℕ → List ℕ → Option ℕ → Type 0
IsSurelyTooLong max_len bytes_read bytes found = (more : List ℕ)
    → IfNone found (MayBeLine max_len bytes_read (length bytes) → more ≡ [])
    → IsTooLongLine max_len bytes_read (bytes ++ more)

-- what `find_line_end` answers
abbrev pub IsLineEnd : ℕ → ℕ → List ℕ → Option ℕ → LineEnd → Type 0
IsLineEnd max_len bytes_read bytes found NoLine = (bytes ≡ []) × IfNone found (Unit {0})
IsLineEnd max_len bytes_read bytes found TooLong = IsSurelyTooLong max_len bytes_read bytes found
IsLineEnd max_len bytes_read bytes found (Line line taken) = EndsLine max_len bytes_read bytes line taken found

-- the line of a piece, where neither it nor the text up to its end is too long
pub record IsLineOf (max_len end : ℕ) (piece : List ℕ) (line : ℕ) : Type 0 where
  pub is : take line piece ≡ without_cr piece
  pub in_piece : line ≤ length piece
  pub short : line ≤ max_len
  pub early : end ≤ max_text_bytes

-- where the line of a piece ends, of which `taken` bytes are taken with its LF
abbrev pub EndsPiece : ℕ → ℕ → List ℕ → ℕ → LineEnd → Type 0
EndsPiece max_len bytes_read piece taken NoLine = ⊥
EndsPiece max_len bytes_read piece taken TooLong = IsTooLongPiece max_len (bytes_read + taken) piece
EndsPiece max_len bytes_read piece taken (Line line end) = (end ≡ taken)
    × IsLineOf max_len (bytes_read + taken) piece line
