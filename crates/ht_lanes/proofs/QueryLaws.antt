-- What two words, or a word and a value, have in common.
use Rattle.std.specs.Prelude.{bit_or}
use Rattle.std.specs.Int.{bit_not}
use Rattle.std.proofs.Common.{subst, IsTrue, ◌↔◌, ◌≡◌, ◌≢◌, ◌<◌, ◌∙◌, ◌&&◌, ◌||◌, not, ap, sym, ℕ, eqb, Bool, true, false, refl}
use Rattle.std.proofs.lemmas.Nat.Bits.{bit_at-zero}
use Rattle.std.specs.Int.{w64}
use Rattle.ht_tern.specs.declared.tern.Tern.{Tern}
use Rattle.ht_tern.specs.declared.tern.Tern.TheVariants.{Zero, One, Unk}
use Rattle.ht_tern.specs.Opposite.{are_opposite}
use Rattle.ht_items.specs.Bits.{is_set}
use Rattle.ht_lanes.specs.Lanes.{Lanes, lane}
use Rattle.ht_lanes.specs.Rows.{AreApart, lane_value, lanes_of, zero_bits_of, one_bits_of}
use Rattle.ht_lanes.specs.Inverse.{apart_at, lane_is, word_back}
use Rattle.ht_lanes.proofs.StuckLaws.{set_not}
use Rattle.ht_lanes.proofs.OperationLaws.{told, set_or}

-- a word tells its rows of bits
pub same_word : (a b c d : ℕ) → lanes_of a b ≡ lanes_of c d → AreApart a b → AreApart c d → (a ≡ c) × (b ≡ d)
same_word a b c d e p q = (
  sym (word_back a b p).0 ∙ (ap (λ (w : Lanes). zero_bits_of w) e ∙ (word_back c d q).0),
  sym (word_back a b p).1 ∙ (ap (λ (w : Lanes). one_bits_of w) e ∙ (word_back c d q).1),
)

-- What two bits that are not both set tell of a value.
opposite_zero : (a b : Bool) → (a && b) ≡ false → b ≡ are_opposite Zero (told a b)
opposite_zero true true h = cc
opposite_zero true false h = refl
opposite_zero false true h = refl
opposite_zero false false h = refl

opposite_one : (a b : Bool) → (a && b) ≡ false → a ≡ are_opposite One (told a b)
opposite_one true true h = cc
opposite_one true false h = refl
opposite_one false true h = refl
opposite_one false false h = refl

-- no value is opposite to an unknown one
pub opposite_unknown : (v : Tern) → false ≡ are_opposite Unk v
opposite_unknown Zero = refl
opposite_unknown One = refl
opposite_unknown Unk = refl

other_zero : (a b : Bool) → IsTrue (not a) ↔ (told a b ≢ Zero)
other_zero true b = (λ h. cc, λ other. absurd (other refl))
other_zero false true = (λ h e. cc, λ other. refl)
other_zero false false = (λ h e. cc, λ other. refl)

other_one : (a b : Bool) → (a && b) ≡ false → IsTrue (not b) ↔ (told a b ≢ One)
other_one true true h = cc
other_one true false h = (λ k e. cc, λ other. refl)
other_one false true h = (λ k. cc, λ other. absurd (other refl))
other_one false false h = (λ k e. cc, λ other. refl)

other_unknown : (a b : Bool) → IsTrue (a || b) ↔ (told a b ≢ Unk)
other_unknown true b = (λ h e. cc, λ other. refl)
other_unknown false true = (λ h e. cc, λ other. refl)
other_unknown false false = (λ h. cc, λ other. absurd (other refl))

-- a fact of the two bits of a lane, as one of the lane
on_lane : (w : Lanes) (a b k : ℕ) → k < 64 → lanes_of a b ≡ w → lane_value a b k ≡ lane w k
on_lane w a b k h view = sym (lane_is a b k h) ∙ ap (λ (x : Lanes). lane x k) view

-- a lane is opposite to Zero exactly where its bit is set in the one row
pub opposite_of_zero : (w : Lanes) (a b k : ℕ) → k < 64 → AreApart a b → lanes_of a b ≡ w
    → is_set b k ≡ are_opposite Zero (lane w k)
opposite_of_zero w a b k h p view = opposite_zero (is_set a k) (is_set b k) (apart_at a b k p.apart)
    ∙ ap (are_opposite Zero) (on_lane w a b k h view)

-- a lane is opposite to One exactly where its bit is set in the zero row
pub opposite_of_one : (w : Lanes) (a b k : ℕ) → k < 64 → AreApart a b → lanes_of a b ≡ w
    → is_set a k ≡ are_opposite One (lane w k)
opposite_of_one w a b k h p view = opposite_one (is_set a k) (is_set b k) (apart_at a b k p.apart)
    ∙ ap (are_opposite One) (on_lane w a b k h view)

-- a set of lanes has lane k exactly where a value is another one
abbrev TellsOther : Bool → Tern → Tern → Type 0
TellsOther bit v value = IsTrue bit ↔ (v ≢ value)

-- a lane has another value than Zero exactly where the complement of the zero row has its bit
pub other_than_zero : (w : Lanes) (a b k : ℕ) → k < 64 → AreApart a b → lanes_of a b ≡ w
    → IsTrue (is_set (bit_not w64 a) k) ↔ (lane w k ≢ Zero)
other_than_zero w a b k h p view =
    subst (λ bit. TellsOther bit (lane w k) Zero) (sym (set_not a k p.zeros_fit h))
    (subst (λ v. TellsOther (not (is_set a k)) v Zero) (on_lane w a b k h view) (other_zero (is_set a k) (is_set b k)))

-- a lane has another value than One exactly where the complement of the one row has its bit
pub other_than_one : (w : Lanes) (a b k : ℕ) → k < 64 → AreApart a b → lanes_of a b ≡ w
    → IsTrue (is_set (bit_not w64 b) k) ↔ (lane w k ≢ One)
other_than_one w a b k h p view =
    subst (λ bit. TellsOther bit (lane w k) One) (sym (set_not b k p.ones_fit h))
    (subst (λ v. TellsOther (not (is_set b k)) v One) (on_lane w a b k h view)
    (other_one (is_set a k) (is_set b k) (apart_at a b k p.apart)))

-- a lane is definite exactly where one of the two rows has its bit
pub other_than_unknown : (w : Lanes) (a b k : ℕ) → k < 64 → AreApart a b → lanes_of a b ≡ w
    → IsTrue (is_set (bit_or a b) k) ↔ (lane w k ≢ Unk)
other_than_unknown w a b k h p view =
    subst (λ bit. TellsOther bit (lane w k) Unk) (sym (set_or a b k))
    (subst (λ v. TellsOther (is_set a k || is_set b k) v Unk) (on_lane w a b k h view)
    (other_unknown (is_set a k) (is_set b k)))

-- the empty set of lanes is that of the lanes opposite to an unknown value
pub none_opposite : (v : Tern) (k : ℕ) → is_set 0 k ≡ are_opposite Unk v
none_opposite v k = ap (λ n. eqb n 1) (bit_at-zero k) ∙ opposite_unknown v
