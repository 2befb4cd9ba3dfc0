-- Four words at a time, and their rows of bits.
use Rattle.std.specs.Prelude.{◌≡◌, ◌<◌, ℕ, List, get_or, length}
use Rattle.ht_lanes.specs.Lanes.{Lanes, word_at}
use Rattle.ht_lanes.specs.Rows.{AreApart, lanes_of}

-- each of four words is what an operation gives of the word, or of the two words, there
abbrev pub IsEach1 : (Lanes → Lanes) → List Lanes → List Lanes → Type 0
IsEach1 op v result = (i : ℕ) → i < 4 → word_at result i ≡ op (word_at v i)

-- Each of the four words of the result is that of an operation on the words at its place.
abbrev pub IsEach2 : (Lanes → Lanes → Lanes) → List Lanes → List Lanes → List Lanes → Type 0
IsEach2 op v w result = (i : ℕ) → i < 4 → word_at result i ≡ op (word_at v i) (word_at w i)

-- no lane of four words is both Zero and One
abbrev pub AreEachApart : List ℕ → List ℕ → Type 0
AreEachApart zeros ones = (i : ℕ) → i < 4 → AreApart (get_or zeros i 0) (get_or ones i 0)

-- the two rows of bits of each of four words
pub record AreFourRows (four : List Lanes) (zeros ones : List ℕ) : Type 0 where
  pub zero_count : length zeros ≡ 4
  pub one_count : length ones ≡ 4
  pub each : (i : ℕ) → i < 4 → word_at four i ≡ lanes_of (get_or zeros i 0) (get_or ones i 0)
  pub apart : AreEachApart zeros ones
