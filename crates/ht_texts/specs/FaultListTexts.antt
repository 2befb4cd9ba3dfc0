-- The text of a list of faults: one line for each, with its number in the fault list, from 1. The numbers rise.
use Rattle.std.specs.Prelude.{◌≡◌, ◌⊎◌, ◌<◌, ◌≤◌, ℕ, List, length, map}
use Rattle.std.specs.Fmt.{decimal}
use Rattle.std.specs.List.{All}
use Rattle.ht_ports.specs.LineRule.{lines_of, max_text_bytes}
use Rattle.ht_tree.specs.Record.Rising.{Rises}
use Rattle.ht_texts.specs.Tests.{IsTooLong}
use Rattle.ht_texts.specs.WrongLines.{IsNoNextLine, IsFirst, IsTextOrMalformed}

-- The lines are the numbers of these faults of so many: in decimal, from 1, without sign or leading zero, and each number
-- is above the one before.
pub record AreFaultLines (count : ℕ) (lines : List (List ℕ)) (numbers : List ℕ) : Type 0 where
  pub texts : lines ≡ map decimal numbers
  pub listed : All (λ number. (0 < number) × (number ≤ count)) numbers
  pub rises : Rises numbers

-- The lines of the text are those of these faults, and the text is no longer than a text may be.
pub record IsFaultListText (count : ℕ) (text numbers : List ℕ) : Type 0 where
  pub lines : AreFaultLines count (lines_of text) numbers
  pub short : length text ≤ max_text_bytes

-- the lines are those of some faults
abbrev pub AreSomeFaults : ℕ → List (List ℕ) → Type 0
AreSomeFaults count lines = (numbers : List ℕ) × AreFaultLines count lines numbers

-- line n is there, and with it the lines so far are those of no faults
abbrev pub IsNoFaultLine : ℕ → List ℕ → ℕ → Type 0
IsNoFaultLine count text n = IsNoNextLine (AreSomeFaults count) text n

-- line n is that of no fault, or the text gets too long in it
abbrev pub IsWrongFaultLine : ℕ → List ℕ → ℕ → Type 0
IsWrongFaultLine count text n = IsNoFaultLine count text n ⊎ IsTooLong text n

-- The text is no list of faults, and line n, from 1, is the first that shows it.
abbrev pub IsMalformedFaultList : ℕ → List ℕ → ℕ → Type 0
IsMalformedFaultList count text n = IsFirst (IsWrongFaultLine count text) n

-- The text is that of one list of faults, or malformed at one line: never both, and never neither.
abbrev pub IsFaultListOrMalformed : ℕ → List ℕ → Type 0
IsFaultListOrMalformed count text = IsTextOrMalformed (IsFaultListText count text) (IsMalformedFaultList count text)
