-- The four parts of a word, 16 bits each, the first one lowest.
use Rattle.std.specs.Prelude.{◌*◌, ◌/◌, ◌%◌, ◌^◌, ℕ}
use Rattle.std.specs.Int.Bits.{bit_or}

-- part i of a word, from 0
abbrev pub part_of : ℕ → ℕ → ℕ
part_of i word = word / 2 ^ (16 * i) % 2 ^ 16

-- the bits that any of the four parts has
abbrev pub union_of : ℕ → ℕ
union_of word = bit_or (bit_or (part_of 0 word) (part_of 2 word)) (bit_or (part_of 1 word) (part_of 3 word))
