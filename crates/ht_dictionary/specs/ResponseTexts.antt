-- The text of what was observed: one line for each vector, with one character for each output.
use Rattle.std.specs.Prelude.{◌≡◌, ◌⊎◌, ◌<◌, ◌≤◌, ℕ, List, length, map, take}
use Rattle.std.specs.List.{All}
use Rattle.ht_tern.specs.declared.tern.Tern.{Tern}
use Rattle.ht_ports.specs.LineRule.{lines_of, max_text_bytes}
use Rattle.ht_texts.specs.Tests.{line_at, IsCoded, IsTooLong}
use Rattle.ht_texts.specs.WrongLines.{IsFirst, IsTextOrMalformed}
pub use Rattle.ht_texts.specs.Tests.{tern_code}

-- the characters of a row, in the order of the outputs; `X` where nothing was seen
abbrev pub row_text : List Tern → List ℕ
row_text row = map tern_code row

-- the line is the text of this row, which has a value for each of so many outputs
abbrev pub IsRowText : ℕ → List ℕ → List Tern → Type 0
IsRowText width line row = IsCoded tern_code width line row

-- The lines of the text are those of these rows, of which there is one for each of so many vectors, and each has a
-- value for each of so many outputs. The text is no longer than a text may be.
pub record IsResponseText (width vectors : ℕ) (text : List ℕ) (rows : List (List Tern)) : Type 0 where
  pub lines : lines_of text ≡ map row_text rows
  pub widths : All (λ (row : List Tern). length row ≡ width) rows
  pub each : length rows ≡ vectors
  pub short : length text ≤ max_text_bytes

-- line n is there, and it is no row's or comes after the last vector
pub record IsNoResponse (width vectors : ℕ) (text : List ℕ) (n : ℕ) : Type 0 where
  pub counted : (0 < n) × (n ≤ length (lines_of text))
  pub wrong : (vectors < n) ⊎ ((row : List Tern) → ¬ IsRowText width (line_at text n) row)

-- there is no line n, and there is a vector n
pub record IsMissingResponse (vectors : ℕ) (text : List ℕ) (n : ℕ) : Type 0 where
  pub missing : length (lines_of text) < n
  pub awaited : n ≤ vectors

-- line n is wrong, too many or missing, or the text gets too long in it
abbrev pub IsWrongResponse : ℕ → ℕ → List ℕ → ℕ → Type 0
IsWrongResponse width vectors text n =
    IsNoResponse width vectors text n ⊎ IsMissingResponse vectors text n ⊎ IsTooLong text n

-- The text isn't that of one row for each vector, and line n, from 1, is the first that shows it.
abbrev pub IsMalformedResponse : ℕ → ℕ → List ℕ → ℕ → Type 0
IsMalformedResponse width vectors text n = IsFirst (IsWrongResponse width vectors text) n

-- the first lines of the text are those of these rows, which have so many values each
pub record AreFirstRows (width : ℕ) (text : List ℕ) (rows : List (List Tern)) : Type 0 where
  pub lines : take (length rows) (lines_of text) ≡ map row_text rows
  pub there : length rows ≤ length (lines_of text)
  pub widths : All (λ (row : List Tern). length row ≡ width) rows

-- The text is that of one list of rows, or malformed at one line: never both, and never neither.
abbrev pub IsResponseOrMalformed : ℕ → ℕ → List ℕ → Type 0
IsResponseOrMalformed width vectors text =
    IsTextOrMalformed (IsResponseText width vectors text) (IsMalformedResponse width vectors text)
