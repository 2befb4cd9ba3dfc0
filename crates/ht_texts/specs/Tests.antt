-- The text of a list of vectors: one line for each vector, with one character for each input.
use Rattle.std.specs.Prelude.{◌≡◌, ◌==◌, ◌⊎◌, ◌<◌, ◌≤◌, ◌+◌, ◌-◌, ℕ, List, [], Bool, true, false, length, take, map, get_or}
use Rattle.std.specs.List.{All, count_by}
use Rattle.ht_net.specs.Circuit.Netlist.{Netlist}
use Rattle.ht_tern.specs.declared.tern.Tern.{Tern}
use Rattle.ht_tern.specs.declared.tern.Tern.TheVariants.{Zero, One, Unk}
use Rattle.ht_ports.specs.LineRule.{lines_of, max_text_bytes}
use Rattle.ht_texts.specs.Lines.{with_lfs}
use Rattle.ht_texts.specs.WrongLines.{IsFirst, IsTextOrMalformed}

-- the character of a bit, `0` or `1`
abbrev pub bit_code : Bool → ℕ
bit_code false = 48
bit_code true = 49

-- the character of a three-valued value, `0`, `1`, or `X` for unknown
abbrev pub tern_code : Tern → ℕ
tern_code Zero = 48
tern_code One = 49
tern_code Unk = 88

-- the characters of a vector, in input order
abbrev pub vector_text : List Bool → List ℕ
vector_text vector = map bit_code vector

-- the text of a list of vectors: the characters of each, and an LF
abbrev pub test_text : List (List Bool) → List ℕ
test_text list = with_lfs (map vector_text list)

-- the line has the character of each of so many values, in their order, by their code
pub record IsCoded {A : Type 0} (code : A → ℕ) (width : ℕ) (line : List ℕ) (values : List A) : Type 0 where
  pub characters : line ≡ map code values
  pub count : length values ≡ width

-- the line is the text of this vector, which has one bit for each of so many inputs
abbrev pub IsTextOf : ℕ → List ℕ → List Bool → Type 0
IsTextOf width line vector = IsCoded bit_code width line vector

-- The lines of the text are those of this list, each vector has one bit for each input of the circuit, and the text
-- is no longer than a text may be.
pub record IsTestText (c : Netlist) (text : List ℕ) (list : List (List Bool)) : Type 0 where
  pub lines : lines_of text ≡ map vector_text list
  pub widths : All (λ (vector : List Bool). length vector ≡ c.inputs) list
  pub short : length text ≤ max_text_bytes

-- line n of a text, from 1
abbrev pub line_at : List ℕ → ℕ → List ℕ
line_at text n = get_or (lines_of text) (n - 1) []

-- line n is there, and no vector of the circuit has it as its text
pub record IsNoVector (c : Netlist) (text : List ℕ) (n : ℕ) : Type 0 where
  pub counted : (0 < n) × (n ≤ length (lines_of text))
  pub none : (vector : List Bool) → ¬ IsTextOf c.inputs (line_at text n) vector

-- how many LFs there are
abbrev pub lf_count : List ℕ → ℕ
lf_count bytes = count_by (λ byte. byte == 10) bytes

-- the number, from 1, of the line of the byte at an index: one more than the LFs in front of that byte
abbrev pub line_of_byte : List ℕ → ℕ → ℕ
line_of_byte text index = lf_count (take index text) + 1

-- the text is longer than a text may be, and the first byte too many is in line n
pub record IsTooLong (text : List ℕ) (n : ℕ) : Type 0 where
  pub long : max_text_bytes < length text
  pub line : n ≡ line_of_byte text max_text_bytes

-- line n is no vector's, or the text gets too long in it
abbrev pub IsWrongLine : Netlist → List ℕ → ℕ → Type 0
IsWrongLine c text n = IsNoVector c text n ⊎ IsTooLong text n

-- The text is no test text of the circuit, and line n, from 1, is the first that shows it.
abbrev pub IsMalformedTest : Netlist → List ℕ → ℕ → Type 0
IsMalformedTest c text n = IsFirst (IsWrongLine c text) n

-- The text is the test text of one list of vectors, or malformed at one line: never both, and never neither.
abbrev pub IsTestOrMalformed : Netlist → List ℕ → Type 0
IsTestOrMalformed c text = IsTextOrMalformed (IsTestText c text) (IsMalformedTest c text)
