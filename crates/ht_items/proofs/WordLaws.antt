-- One bit of a word is read.
use Rattle.std.specs.Prelude.{bit_and}
use Rattle.std.proofs.Common.{◌≡◌, ◌^◌, ◌/◌, ap, ℕ, eqb}
use Rattle.std.proofs.lemmas.Nat.Bits.{shr_and_one}
use Rattle.ht_items.specs.Bits.{is_set}

-- the bit that was shifted to the end is the bit
pub test_is_set : (n k : ℕ) → eqb (bit_and (n / 2 ^ k) 1) 1 ≡ is_set n k
test_is_set n k = ap (λ m. eqb m 1) (shr_and_one n k)
