-- Where a text goes wrong: the first line that shows it.
use Rattle.std.specs.Prelude.{◌≡◌, ◌⊎◌, ◌<◌, ◌≤◌, ℕ, List, length, take}
use Rattle.ht_ports.specs.LineRule.{lines_of}

-- Line n, from 1, is wrong, and none before it is.
pub record IsFirst (IsWrong : ℕ → Type 0) (n : ℕ) : Type 0 where
  pub wrong : IsWrong n
  pub first : (m : ℕ) → m < n → ¬ IsWrong m

-- Line n is there, and no text of the kind that begins so has it after the lines before it.
pub record IsNoNextLine (BeginsSo : List (List ℕ) → Type 0) (text : List ℕ) (n : ℕ) : Type 0 where
  pub counted : (0 < n) × (n ≤ length (lines_of text))
  pub none : ¬ BeginsSo (take n (lines_of text))

-- A text is that of one value, or malformed at one line: never both, and never neither.
pub record IsTextOrMalformed {A : Type 0} (IsText : A → Type 0) (IsMalformed : ℕ → Type 0) : Type 0 where
  pub either : ((value : A) × IsText value) ⊎ ((n : ℕ) × IsMalformed n)
  pub never_both : (value : A) (n : ℕ) → IsText value → ¬ IsMalformed n
  pub one_value : (a b : A) → IsText a → IsText b → a ≡ b
  pub one_line : (m n : ℕ) → IsMalformed m → IsMalformed n → m ≡ n
