-- Words split from a text.
use Rattle.std.specs.Prelude.{◌≡◌, ℕ, ◌<◌, List, [], ◌∷◌, ◌++◌, Bool, true, false, ◌||◌, not, length, slice_index}
use Rattle.ht_statement.specs.LineToken.{is_blank}
use Rattle.ht_statement.specs.Name.{ends_word}

-- no blank, no mark, and no begin of a comment
abbrev pub is_word_byte : ℕ → Bool
is_word_byte byte = not (is_blank byte || ends_word byte)

-- a text that begins with no blank
abbrev pub BeginsNoBlank : List ℕ → Type 0
BeginsNoBlank [] = Unit {0}
BeginsNoBlank (byte ∷ text) = is_blank byte ≡ false

-- a text that begins with no byte of a word
abbrev pub BeginsNoWord : List ℕ → Type 0
BeginsNoWord [] = Unit {0}
BeginsNoWord (byte ∷ text) = is_word_byte byte ≡ false

-- the longest run of a word's bytes that a text begins with, and the text after it
pub record IsWordSplit (text word rest : List ℕ) : Type 0 where
  pub whole : text ≡ word ++ rest
  pub bytes : (k : ℕ) → k < length word → is_word_byte (slice_index word k) ≡ true
  pub longest : BeginsNoWord rest
