-- The rows of bits of a word, and its lanes back from them.
use Rattle.std.specs.Prelude.{bit_and}
use Rattle.std.specs.Int.{bit_at}
use Rattle.std.specs.Simd.Lanes.{mask_l}
use Rattle.std.proofs.Common.{◌≡◌, ◌<◌, ◌^◌, ◌∙◌, ◌&&◌, ap, sym, ℕ, zero, suc, length, map, cond, eqb, Bool, true, false, refl, arith, min, subst}
use Rattle.std.proofs.lemmas.Simd.{mask_l-lt, bit_mask_l}
use Rattle.std.proofs.lemmas.Nat.Bits.{same_from_bits_below, bit_at-lt, bit_at_and, bit_at-zero}
use Rattle.std.proofs.lemmas.List.FromFn.{get_or-map-range_with_len, length-map-range_with_len}
use Rattle.std.proofs.lemmas.List.{get_or-map, length-map}
use Rattle.ht_tern.specs.declared.tern.Tern.{Tern}
use Rattle.ht_tern.specs.declared.tern.Tern.TheVariants.{Zero, One, Unk}
use Rattle.ht_items.specs.Bits.{is_set}
use Rattle.ht_lanes.specs.Lanes.{Lanes, lane, each_lane}
use Rattle.ht_lanes.specs.Rows.{AreApart, lane_value, lanes_of, zero_bits_of, one_bits_of, is_zero, is_one}

-- a bit is 1 or 0 by a test
pub bit_by_test : (x : ℕ) → x < 2 → x ≡ cond (eqb x 1) 1 0
bit_by_test zero h = refl
bit_by_test (suc zero) h = refl
bit_by_test (suc (suc x)) h = absurd (omega (arith, h))

-- no lane is in both rows
pub not_both : (x y : ℕ) → x < 2 → y < 2 → min x y ≡ 0 → (eqb x 1 && eqb y 1) ≡ false
not_both zero y h k m = refl
not_both (suc zero) zero h k m = refl
not_both (suc zero) (suc zero) h k m = cc
not_both (suc zero) (suc (suc y)) h k m = absurd (omega (arith, k))
not_both (suc (suc x)) y h k m = absurd (omega (arith, h))

-- Two words without a common bit aren't both set at bit k.
pub apart_at : (zeros ones k : ℕ) → bit_and zeros ones ≡ 0
    → (is_set zeros k && is_set ones k) ≡ false
apart_at zeros ones k h = not_both _ _ (bit_at-lt zeros k) (bit_at-lt ones k)
    (sym (bit_at_and zeros ones k)
    ∙ (ap (λ n. bit_at n k) h ∙ bit_at-zero k))

-- a lane of a word, by what its lanes have
pub lane_of_each : (f : ℕ → Tern) (k : ℕ) → k < 64 → lane (each_lane f) k ≡ f k
lane_of_each f k h = get_or-map-range_with_len f 0 64 k k Unk h (omega arith)

-- Lane k below 64 of two words has the value that their bits k stand for.
pub lane_is : (zeros ones k : ℕ) → k < 64 → lane (lanes_of zeros ones) k ≡ lane_value zeros ones k
unfolding lanes_of
lane_is zeros ones k h = lane_of_each (lane_value zeros ones) k h

-- there are 64 lanes
pub lanes_length : (zeros ones : ℕ) → length (lanes_of zeros ones) ≡ 64
unfolding lanes_of
lanes_length zeros ones = length-map-range_with_len (lane_value zeros ones) 0 64

zero_test : (a b : Bool) → is_zero (cond a Zero (cond b One Unk)) ≡ a
zero_test true b = refl
zero_test false true = refl
zero_test false false = refl

one_test : (a b : Bool) → (a && b) ≡ false → is_one (cond a Zero (cond b One Unk)) ≡ b
one_test true true h = cc
one_test true false h = refl
one_test false true h = refl
one_test false false h = refl

row_back : (p : Tern → Bool) (w : Lanes) (bits : ℕ) → length w ≡ 64 → bits < 2 ^ 64
    → ((k : ℕ) → k < 64 → p (lane w k) ≡ is_set bits k) → mask_l (map p w) ≡ bits
row_back p w bits long fits h =
    let count : length (map p w) ≡ 64 = length-map w p ∙ long in
    same_from_bits_below 64 (mask_l (map p w)) bits
    (subst (λ n. mask_l (map p w) < 2 ^ n) count (mask_l-lt (map p w))) fits
    (λ k below. bit_mask_l (map p w) k
    ∙ (ap (λ b. cond b 1 0) (get_or-map p w k Unk false (omega (arith, long)) ∙ h k below)
    ∙ sym (bit_by_test (bit_at bits k) (bit_at-lt bits k))))

-- the lanes of a word tell its rows
pub word_back : (zeros ones : ℕ) → AreApart zeros ones
    → (zero_bits_of (lanes_of zeros ones) ≡ zeros) × (one_bits_of (lanes_of zeros ones) ≡ ones)
word_back zeros ones apart = (
  row_back is_zero (lanes_of zeros ones) zeros (lanes_length zeros ones) apart.zeros_fit
      (λ k below. ap is_zero (lane_is zeros ones k below)
      ∙ zero_test (is_set zeros k) (is_set ones k)),
  row_back is_one (lanes_of zeros ones) ones (lanes_length zeros ones) apart.ones_fit
      (λ k below. ap is_one (lane_is zeros ones k below)
      ∙ one_test (is_set zeros k) (is_set ones k) (apart_at zeros ones k apart.apart)),
)
