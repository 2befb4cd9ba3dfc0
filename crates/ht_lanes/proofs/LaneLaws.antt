-- Reading and writing one lane, and a value in every lane.
use Rattle.std.specs.Prelude.{bit_and, bit_or}
use Rattle.std.specs.Int.{bit_not}
use Rattle.std.proofs.Common.{◌≡◌, ◌≢◌, ◌<◌, ◌^◌, ◌*◌, ◌%◌, ◌/◌, ◌∙◌, ◌&&◌, ap, sym, ℕ, List, map, [], ◌∷◌, cond, eqb, Bool, true, false, refl, arith, inl, inr}
use Rattle.std.proofs.lemmas.Bool.Decides.{eqb_tells}
use Rattle.std.proofs.lemmas.Nat.Bits.{bit_at_set_same, bit_at_set_other, bit_at_clear_same, bit_at_clear_other}
use Rattle.std.proofs.lemmas.Nat.{or_lt}
use Rattle.std.specs.Int.{w64}
use Rattle.ht_tern.specs.declared.tern.Tern.{Tern}
use Rattle.ht_tern.specs.declared.tern.Tern.TheVariants.{Zero, One, Unk}
use Rattle.ht_tern.specs.declared.gate.Kind.{Kind}
use Rattle.ht_tern.specs.Gate.{complement_of, and_of, or_of, xor_of, tern_operations, gate_value, AllRelated}
use Rattle.ht_tern.proofs.RefinementLaws.{PreservesOperations}
use Rattle.ht_tern.proofs.GateLaws.{gate_related}
use Rattle.ht_items.specs.Bits.{is_set}
use Rattle.ht_lanes.specs.Lanes.{Lanes, lane, with_lane, IsLane, lane_operations, gate_lanes, every_lane}
use Rattle.ht_lanes.specs.Rows.{AreApart, lane_value, lanes_of}
use Rattle.ht_lanes.specs.Inverse.{apart_at, lane_is, lane_of_each}
use Rattle.ht_lanes.proofs.OperationLaws.{told, lanes_same, apart_of, and_fits, set_and, not_apart}

-- the word with all bits of the zero row and none of the one row has Zero in every lane
pub splat_zero : lanes_of 18446744073709551615 0 ≡ every_lane Zero
unfolding lanes_of
splat_zero = refl

-- the word with all bits of the one row and none of the zero row has One in every lane
pub splat_one : lanes_of 0 18446744073709551615 ≡ every_lane One
unfolding lanes_of
splat_one = refl

-- the word without a bit in either row is unknown in every lane
pub splat_unknown : lanes_of 0 0 ≡ every_lane Unk
unfolding lanes_of
splat_unknown = refl

-- the value of a lane, from the tests of its two bits
pub lane_told : (w : Lanes) (zeros ones k : ℕ) (a b : Bool) → k < 64 → lanes_of zeros ones ≡ w → a ≡ is_set zeros k
    → b ≡ is_set ones k → told a b ≡ lane w k
lane_told w zeros ones k a b h view p q = (λ i. told (p i) (q i))
    ∙ (sym (lane_is zeros ones k h) ∙ ap (λ v. lane v k) view)

-- one lane is written
set_lane : (w : Lanes) (a b c d k : ℕ) (v : Tern) → k < 64 → lanes_of a b ≡ w → lane_value c d k ≡ v
    → ((i : ℕ) → i < 64 → i ≢ k → lane_value c d i ≡ lane_value a b i) → lanes_of c d ≡ with_lane w k v
unfolding lanes_of
set_lane w a b c d k v h view here others =
    lanes_same (lane_value c d) (λ i. cond (eqb i k) v (lane w i))
    (λ i below. elim (eqb_tells i k) [
      | inl p ↦ rw p.0 (ap (lane_value c d) p.1 ∙ here)
      | inr p ↦ rw p.0 (others i below p.1 ∙ (sym (lane_is a b i below) ∙ ap (λ (x : Lanes). lane x i) view))
    ])

abbrev pub bit_of : ℕ → ℕ
bit_of k = 1 * 2 ^ k % 2 ^ 64

-- a lane's bit cleared in the zero row and set in the one row writes One in the lane
pub written_one : (w : Lanes) (a b k : ℕ) → k < 64 → lanes_of a b ≡ w
    → lanes_of (bit_and a (bit_not w64 (bit_of k))) (bit_or b (bit_of k)) ≡ with_lane w k One
written_one w a b k h view =
    set_lane w a b (bit_and a (bit_not w64 (bit_of k))) (bit_or b (bit_of k)) k One h view
    (λ i. told (eqb (bit_at_clear_same w64 a k h i) 1) (eqb (bit_at_set_same w64 b k h i) 1))
    (λ n below other. (λ i. told (eqb (bit_at_clear_other w64 a k h n below other i) 1)
    (eqb (bit_at_set_other w64 b k h n other i) 1)))

-- a lane's bit set in the zero row and cleared in the one row writes Zero in the lane
pub written_zero : (w : Lanes) (a b k : ℕ) → k < 64 → lanes_of a b ≡ w
    → lanes_of (bit_or a (bit_of k)) (bit_and b (bit_not w64 (bit_of k))) ≡ with_lane w k Zero
written_zero w a b k h view =
    set_lane w a b (bit_or a (bit_of k)) (bit_and b (bit_not w64 (bit_of k))) k Zero h view
    (λ i. told (eqb (bit_at_set_same w64 a k h i) 1) (eqb (bit_at_clear_same w64 b k h i) 1))
    (λ n below other. (λ i. told (eqb (bit_at_set_other w64 a k h n other i) 1)
    (eqb (bit_at_clear_other w64 b k h n below other i) 1)))

cleared : (x m y : Bool) → (x && y) ≡ false → ((x && m) && y) ≡ false
cleared true true y h = h
cleared true false y h = refl
cleared false m y h = refl

bit_fits : (k : ℕ) → bit_of k < 2 ^ 64
bit_fits k = omega arith

-- rows with One written in a lane still have no lane that is both Zero and One
pub apart_one : (a b k : ℕ) → k < 64 → AreApart a b
    → AreApart (bit_and a (bit_not w64 (bit_of k))) (bit_or b (bit_of k))
apart_one a b k h p =
    apart_of (bit_and a (bit_not w64 (bit_of k))) (bit_or b (bit_of k))
    (and_fits a (bit_not w64 (bit_of k)) p.zeros_fit) (or_lt 64 b (bit_of k) p.ones_fit (bit_fits k))
    (λ n. elim (eqb_tells n k) [
      | inl q ↦ rw q.1 (λ i. eqb (bit_at_clear_same w64 a k h i) 1 && is_set (bit_or b (bit_of k)) k)
      | inr q ↦ (λ i. set_and a (bit_not w64 (bit_of k)) n i && eqb (bit_at_set_other w64 b k h n q.1 i) 1)
          ∙ cleared (is_set a n) (is_set (bit_not w64 (bit_of k)) n) (is_set b n) (apart_at a b n p.apart)
    ])

-- rows with Zero written in a lane still have no lane that is both Zero and One
pub apart_zero : (a b k : ℕ) → k < 64 → AreApart a b
    → AreApart (bit_or a (bit_of k)) (bit_and b (bit_not w64 (bit_of k)))
apart_zero a b k h p = not_apart (bit_and b (bit_not w64 (bit_of k))) (bit_or a (bit_of k))
    (apart_one b a k h (not_apart a b p))

-- a lane's bit cleared in both rows makes the lane unknown
pub written_unknown : (w : Lanes) (a b k : ℕ) → k < 64 → lanes_of a b ≡ w
    → lanes_of (bit_and a (bit_not w64 (bit_of k))) (bit_and b (bit_not w64 (bit_of k))) ≡ with_lane w k Unk
written_unknown w a b k h view =
    set_lane w a b (bit_and a (bit_not w64 (bit_of k))) (bit_and b (bit_not w64 (bit_of k))) k Unk h view
    (λ i. told (eqb (bit_at_clear_same w64 a k h i) 1) (eqb (bit_at_clear_same w64 b k h i) 1))
    (λ n below other. (λ i. told (eqb (bit_at_clear_other w64 a k h n below other i) 1)
    (eqb (bit_at_clear_other w64 b k h n below other i) 1)))

less_apart : (x m y n : Bool) → (x && y) ≡ false → ((x && m) && (y && n)) ≡ false
less_apart true m true n h = cc
less_apart true true false n h = refl
less_apart true false y n h = refl
less_apart false m y n h = refl

-- rows that are masked with the same number still have no lane that is both Zero and One
pub apart_unknown : (a b m : ℕ) → AreApart a b → AreApart (bit_and a m) (bit_and b m)
apart_unknown a b m p =
    apart_of (bit_and a m) (bit_and b m) (and_fits a m p.zeros_fit) (and_fits b m p.ones_fit)
    (λ k. (λ i. set_and a m k i && set_and b m k i) ∙ less_apart (is_set a k) (is_set m k) (is_set b k) (is_set m k)
    (apart_at a b k p.apart))

-- Each lane of what the operations give is what they give of that lane.
pub lane_preserved : (k : ℕ) → k < 64 → PreservesOperations (IsLane k) lane_operations tern_operations
lane_preserved k h = record {
  complement = λ v x p. lane_of_each (λ i. complement_of (lane v i)) k h ∙ ap complement_of p;
  conjunction = λ v w x y p q. lane_of_each (λ i. and_of (lane v i) (lane w i)) k h ∙ (λ i. and_of (p i) (q i));
  disjunction = λ v w x y p q. lane_of_each (λ i. or_of (lane v i) (lane w i)) k h ∙ (λ i. or_of (p i) (q i));
  parity = λ v w x y p q. lane_of_each (λ i. xor_of (lane v i) (lane w i)) k h ∙ (λ i. xor_of (p i) (q i));
}

-- where the words at a gate's pins have some values in a lane, the gate's word has there the gate's value of these
pub gate_lane : (k : ℕ) → k < 64 → (kind : Kind) (args : List Lanes) (values : List Tern)
    → AllRelated (IsLane k) args values → IsLane k (gate_lanes kind args) (gate_value kind values)
gate_lane k h = gate_related (IsLane k) lane_operations tern_operations (lane_preserved k h) (every_lane Unk) Unk
    (lane_of_each (λ i. Unk) k h)

lanes_at : (k : ℕ) (args : List Lanes) → AllRelated (IsLane k) args (map (λ w. lane w k) args)
lanes_at k [] = tt
lanes_at k (w ∷ args) = (refl, lanes_at k args)

-- a lane of a gate's word is the gate's value of that lane of the words at its pins
pub gate_at_lane : (k : ℕ) → k < 64 → (kind : Kind) (args : List Lanes)
    → lane (gate_lanes kind args) k ≡ gate_value kind (map (λ w. lane w k) args)
gate_at_lane k h kind args = gate_lane k h kind args (map (λ w. lane w k) args) (lanes_at k args)
