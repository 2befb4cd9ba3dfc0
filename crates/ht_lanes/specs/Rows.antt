-- How two rows of bits stand for a word: the lanes that are Zero, and the lanes that are One.
use Rattle.std.specs.Prelude.{◌≡◌, ◌<◌, ◌^◌, ℕ, map, Bool, true, false, bit_and, if◌then◌else◌}
use Rattle.std.specs.Simd.Lanes.{mask_l}
use Rattle.ht_tern.specs.declared.tern.Tern.{Tern}
use Rattle.ht_tern.specs.declared.tern.Tern.TheVariants.{Zero, One, Unk}
use Rattle.ht_items.specs.Bits.{is_set}
use Rattle.ht_lanes.specs.Lanes.{Lanes, each_lane}

-- the value of lane k
abbrev pub lane_value : ℕ → ℕ → ℕ → Tern
lane_value zeros ones k = if is_set zeros k then Zero else (if is_set ones k then One else Unk)

-- the word that two rows of bits stand for
unfoldable pub lanes_of : ℕ → ℕ → Lanes
lanes_of zeros ones = each_lane (lane_value zeros ones)

-- two rows of 64 bits, where no lane is both Zero and One
pub record AreApart (zeros ones : ℕ) : Type 0 where
  pub zeros_fit : zeros < 2 ^ 64
  pub ones_fit : ones < 2 ^ 64
  pub apart : bit_and zeros ones ≡ 0

-- a lane is Zero, and a lane is One
abbrev pub is_zero : Tern → Bool
is_zero Zero = true
is_zero One = false
is_zero Unk = false

-- the value is 1 for certain
abbrev pub is_one : Tern → Bool
is_one Zero = false
is_one One = true
is_one Unk = false

-- the rows of a word
abbrev pub zero_bits_of : Lanes → ℕ
zero_bits_of w = mask_l (map is_zero w)

-- the number with bit k set exactly where lane k holds 1
abbrev pub one_bits_of : Lanes → ℕ
one_bits_of w = mask_l (map is_one w)
