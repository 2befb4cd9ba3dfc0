-- Bits in words of 64 as marks for numbers.
use Rattle.std.specs.Prelude.{◌≡◌, ◌<◌, ◌≤◌, ◌*◌, ◌/◌, ◌%◌, ◌^◌, ℕ, List, Bool, true, false, length, get_or, map, bit_and, bit_or, if◌then◌else◌}
use Rattle.std.specs.Int.{bit_not, w64}
use Rattle.std.specs.List.{range_with_len}
use Rattle.ht_items.specs.Bits.{is_set}
use Rattle.ht_items.specs.declared.bit_set.BitSet.TheInside.{Inside}

-- whether number i is marked
abbrev pub is_marked : List ℕ → ℕ → Bool
is_marked words i = is_set (get_or words (i / 64) 0) (i % 64)

-- number i is the first that is marked, from `from` on
pub record IsFirstMark (words : List ℕ) (from i : ℕ) : Type 0 where
  pub from_on : from ≤ i
  pub marked : is_marked words i ≡ true
  pub least : (q : ℕ) → from ≤ q → q < i → is_marked words q ≡ false

-- the marks of the numbers below a bound
unfoldable pub marks_of : ℕ → List ℕ → List Bool
marks_of bound words = map (is_marked words) (range_with_len 0 bound)

-- each number below the bound has a bit, and no number from there on is marked
pub record IsBitSet (a : Inside) : Type 0 where
  pub room : a.bound ≤ 64 * length a.words.items
  pub few : length a.words.items < 2 ^ 32
  pub past : (i : ℕ) → a.bound ≤ i → is_marked a.words.items i ≡ false
