-- The bits of a word of 64.
use Rattle.std.specs.Prelude.{◌*◌, ◌%◌, ◌^◌, ℕ, Bool, bit_and, bit_or, ◌==◌, if◌then◌else◌}
use Rattle.std.specs.Int.{bit_at, bit_not, w64}

-- whether bit k is 1
abbrev pub is_set : ℕ → ℕ → Bool
is_set bits k = bit_at bits k == 1

-- the bits with bit k as given
abbrev pub with_bit : ℕ → ℕ → Bool → ℕ
with_bit bits k bit =
    if bit then bit_or bits (1 * 2 ^ k % 2 ^ 64)
    else bit_and bits (bit_not w64 (1 * 2 ^ k % 2 ^ 64))
