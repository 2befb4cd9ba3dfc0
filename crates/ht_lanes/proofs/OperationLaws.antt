-- What the operations on rows of bits do in each lane.
use Rattle.std.specs.Prelude.{bit_and, bit_or}
use Rattle.std.proofs.Common.{◌≡◌, ◌<◌, ◌^◌, ◌∙◌, ◌&&◌, ◌||◌, ap, sym, ℕ, zero, suc, cond, eqb, Bool, true, false, refl, arith, min, max, ◌≤◌, ◌⊎◌, inl, inr}
use Rattle.std.proofs.lemmas.List.{ext_get_or}
use Rattle.std.proofs.lemmas.Bool.Decides.{nat_tests}
use Rattle.std.proofs.lemmas.List.FromFn.{length-map-range_with_len}
use Rattle.std.proofs.lemmas.Nat.Bits.{same_from_bits, bit_at-lt, bit_at_and, bit_at_or, bit_at-zero, bit_at_above}
use Rattle.std.proofs.lemmas.Nat.{or_lt, and_le_l}
use Rattle.ht_tern.specs.declared.tern.Tern.{Tern}
use Rattle.ht_tern.specs.declared.tern.Tern.TheVariants.{Zero, One, Unk}
use Rattle.ht_tern.specs.Gate.{complement_of, and_of, or_of, xor_of}
use Rattle.ht_items.specs.Bits.{is_set}
use Rattle.ht_lanes.specs.Lanes.{lane, each_lane, lane_operations}
use Rattle.ht_lanes.specs.Rows.{AreApart, lane_value, lanes_of}
use Rattle.ht_lanes.specs.Inverse.{apart_at, lane_is, lane_of_each}

-- what holds of two bits, each 0 or 1
by_bits : (P : ℕ → ℕ → Type 0) → P 0 0 → P 0 1 → P 1 0 → P 1 1 → (x y : ℕ) → x < 2 → y < 2 → P x y
by_bits P none second first both zero zero h k = none
by_bits P none second first both zero (suc zero) h k = second
by_bits P none second first both (suc zero) zero h k = first
by_bits P none second first both (suc zero) (suc zero) h k = both
by_bits P none second first both (suc (suc x)) y h k = absurd (omega (arith, h))
by_bits P none second first both x (suc (suc y)) h k = absurd (omega (arith, k))

max_test : (x y : ℕ) → x < 2 → y < 2 → eqb (max x y) 1 ≡ (eqb x 1 || eqb y 1)
max_test = by_bits (λ x y. eqb (max x y) 1 ≡ (eqb x 1 || eqb y 1)) refl refl refl refl

min_test : (x y : ℕ) → x < 2 → y < 2 → eqb (min x y) 1 ≡ (eqb x 1 && eqb y 1)
min_test = by_bits (λ x y. eqb (min x y) 1 ≡ (eqb x 1 && eqb y 1)) refl refl refl refl

-- a bit of the OR of two numbers is set where it is in one of them
pub set_or : (a b k : ℕ) → is_set (bit_or a b) k ≡ (is_set a k || is_set b k)
set_or a b k = ap (λ n. eqb n 1) (bit_at_or a b k) ∙ max_test _ _ (bit_at-lt a k) (bit_at-lt b k)

-- a bit of the AND of two numbers is set where it is in both
pub set_and : (a b k : ℕ) → is_set (bit_and a b) k ≡ (is_set a k && is_set b k)
set_and a b k = ap (λ n. eqb n 1) (bit_at_and a b k) ∙ min_test _ _ (bit_at-lt a k) (bit_at-lt b k)

-- no row of bits meets another where no place has both
unset : (x : ℕ) → x < 2 → eqb x 1 ≡ false → x ≡ 0
unset zero h k = refl
unset (suc zero) h k = cc
unset (suc (suc x)) h k = absurd (omega (arith, h))

-- two numbers without a common bit have the AND 0
pub apart_from : (a b : ℕ) → ((k : ℕ) → (is_set a k && is_set b k) ≡ false) → bit_and a b ≡ 0
apart_from a b h = same_from_bits (bit_and a b) 0 (λ k. unset _ (bit_at-lt (bit_and a b) k) (set_and a b k ∙ h k)
    ∙ sym (bit_at-zero k))

-- the value that two bits tell
abbrev pub told : Bool → Bool → Tern
told a b = cond a Zero (cond b One Unk)

-- what holds of two bits that are not both set: they tell Zero, One or Unk
by_told : (P : Bool → Bool → Type 0) → P true false → P false true → P false false
    → (a b : Bool) → (a && b) ≡ false → P a b
by_told P at_zero at_one at_unk true true h = cc
by_told P at_zero at_one at_unk true false h = at_zero
by_told P at_zero at_one at_unk false true h = at_one
by_told P at_zero at_one at_unk false false h = at_unk

-- what holds of two such pairs
by_two_told : (P : Bool → Bool → Bool → Bool → Type 0)
    → P true false true false → P true false false true → P true false false false
    → P false true true false → P false true false true → P false true false false
    → P false false true false → P false false false true → P false false false false
    → (a b a' b' : Bool) → (a && b) ≡ false → (a' && b') ≡ false → P a b a' b'
by_two_told P zz zo zu oz oo ou uz uo uu a b a' b' h k =
    by_told (λ x y. P x y a' b') (by_told (P true false) zz zo zu a' b' k) (by_told (P false true) oz oo ou a' b' k)
    (by_told (P false false) uz uo uu a' b' k) a b h

and_told : (a b a' b' : Bool) → (a && b) ≡ false → (a' && b') ≡ false
    → told (a || a') (b && b') ≡ and_of (told a b) (told a' b')
and_told = by_two_told (λ a b a' b'. told (a || a') (b && b') ≡ and_of (told a b) (told a' b'))
    refl refl refl refl refl refl refl refl refl

or_told : (a b a' b' : Bool) → (a && b) ≡ false → (a' && b') ≡ false
    → told (a && a') (b || b') ≡ or_of (told a b) (told a' b')
or_told = by_two_told (λ a b a' b'. told (a && a') (b || b') ≡ or_of (told a b) (told a' b'))
    refl refl refl refl refl refl refl refl refl

xor_told : (a b a' b' : Bool) → (a && b) ≡ false → (a' && b') ≡ false
    → told ((a && a') || (b && b')) ((a && b') || (b && a')) ≡ xor_of (told a b) (told a' b')
xor_told = by_two_told
    (λ a b a' b'. told ((a && a') || (b && b')) ((a && b') || (b && a')) ≡ xor_of (told a b) (told a' b'))
    refl refl refl refl refl refl refl refl refl

not_told : (a b : Bool) → (a && b) ≡ false → told b a ≡ complement_of (told a b)
not_told = by_told (λ a b. told b a ≡ complement_of (told a b)) refl refl refl

-- the same of the bits of words
abbrev Apart : ℕ → ℕ → Type 0
Apart a b = (k : ℕ) → (is_set a k && is_set b k) ≡ false

-- words with the same lanes are one
pub lanes_same : (f g : ℕ → Tern) → ((k : ℕ) → k < 64 → f k ≡ g k) → each_lane f ≡ each_lane g
lanes_same f g h =
    let n = length-map-range_with_len f 0 64 in
    ext_get_or Unk (each_lane f) (each_lane g) (n ∙ sym (length-map-range_with_len g 0 64))
    (λ k inside. let below : k < 64 = omega (arith, n, inside) in lane_of_each f k below
    ∙ (h k below ∙ sym (lane_of_each g k below)))

lanes_two : (op : Tern → Tern → Tern) (z o a b c d : ℕ)
    → ((k : ℕ) → lane_value z o k ≡ op (lane_value a b k) (lane_value c d k))
    → lanes_of z o ≡ each_lane (λ k. op (lane (lanes_of a b) k) (lane (lanes_of c d) k))
unfolding lanes_of
lanes_two op z o a b c d h =
    lanes_same (lane_value z o) (λ k. op (lane (lanes_of a b) k) (lane (lanes_of c d) k))
    (λ k below. h k ∙ (λ i. op (sym (lane_is a b k below) i) (sym (lane_is c d k below) i)))

-- OR of the zero rows and AND of the one rows are AND of two words, lane by lane
pub and_lanes : (a b c d : ℕ) → AreApart a b → AreApart c d
    → lanes_of (bit_or a c) (bit_and b d) ≡ lane_operations.conjunction (lanes_of a b) (lanes_of c d)
and_lanes a b c d p q =
    lanes_two and_of (bit_or a c) (bit_and b d) a b c d
    (λ k. (λ i. told (set_or a c k i) (set_and b d k i))
    ∙ and_told (is_set a k) (is_set b k) (is_set c k) (is_set d k) (apart_at a b k p.apart) (apart_at c d k q.apart))

-- AND of the zero rows and OR of the one rows are OR of two words, lane by lane
pub or_lanes : (a b c d : ℕ) → AreApart a b → AreApart c d
    → lanes_of (bit_and a c) (bit_or b d) ≡ lane_operations.disjunction (lanes_of a b) (lanes_of c d)
or_lanes a b c d p q =
    lanes_two or_of (bit_and a c) (bit_or b d) a b c d
    (λ k. (λ i. told (set_and a c k i) (set_or b d k i)) ∙ or_told (is_set a k) (is_set b k) (is_set c k) (is_set d k)
    (apart_at a b k p.apart) (apart_at c d k q.apart))

set_two : (a b c d k : ℕ) → is_set (bit_or (bit_and a b) (bit_and c d)) k ≡
    ((is_set a k && is_set b k) || (is_set c k && is_set d k))
set_two a b c d k = set_or (bit_and a b) (bit_and c d) k ∙ (λ i. set_and a b k i || set_and c d k i)

-- the lanes where two words have the same definite value, and where opposite ones, are XOR, lane by lane
pub xor_lanes : (a b c d : ℕ) → AreApart a b → AreApart c d
    → lanes_of (bit_or (bit_and a c) (bit_and b d)) (bit_or (bit_and a d) (bit_and b c)) ≡ lane_operations.parity
    (lanes_of a b) (lanes_of c d)
xor_lanes a b c d p q =
    lanes_two xor_of (bit_or (bit_and a c) (bit_and b d)) (bit_or (bit_and a d) (bit_and b c)) a b c d
    (λ k. (λ i. told (set_two a c b d k i) (set_two a d b c k i))
    ∙ xor_told (is_set a k) (is_set b k) (is_set c k) (is_set d k) (apart_at a b k p.apart) (apart_at c d k q.apart))

-- the rows of a word, exchanged, are its complement, lane by lane
pub not_lanes : (a b : ℕ) → AreApart a b → lanes_of b a ≡ lane_operations.complement (lanes_of a b)
unfolding lanes_of
not_lanes a b p =
    lanes_same (lane_value b a) (λ k. complement_of (lane (lanes_of a b) k))
    (λ k below. not_told (is_set a k) (is_set b k) (apart_at a b k p.apart)
    ∙ ap complement_of (sym (lane_is a b k below)))

-- The results of the operations have no lane that is both.
not_apart_told : (a b : Bool) → (a && b) ≡ false → (b && a) ≡ false
not_apart_told = by_told (λ a b. (b && a) ≡ false) refl refl refl

and_apart_told : (a b c d : Bool) → (a && b) ≡ false → (c && d) ≡ false → ((a || c) && (b && d)) ≡ false
and_apart_told = by_two_told (λ a b c d. ((a || c) && (b && d)) ≡ false)
    refl refl refl refl refl refl refl refl refl

or_apart_told : (a b c d : Bool) → (a && b) ≡ false → (c && d) ≡ false → ((a && c) && (b || d)) ≡ false
or_apart_told = by_two_told (λ a b c d. ((a && c) && (b || d)) ≡ false)
    refl refl refl refl refl refl refl refl refl

xor_apart_told : (a b c d : Bool) → (a && b) ≡ false → (c && d) ≡ false
    → (((a && c) || (b && d)) && ((a && d) || (b && c))) ≡ false
xor_apart_told = by_two_told (λ a b c d. (((a && c) || (b && d)) && ((a && d) || (b && c))) ≡ false)
    refl refl refl refl refl refl refl refl refl

-- two numbers of at most 64 bits without a common bit are the rows of a word
pub apart_of : (a b : ℕ) → a < 2 ^ 64 → b < 2 ^ 64 → ((k : ℕ) → (is_set a k && is_set b k) ≡ false) → AreApart a b
apart_of a b f g h = record { zeros_fit = f; ones_fit = g; apart = apart_from a b h }

-- rows without a lane that is both Zero and One stay so when they are exchanged
pub not_apart : (a b : ℕ) → AreApart a b → AreApart b a
not_apart a b p = apart_of b a p.ones_fit p.zeros_fit
    (λ k. not_apart_told (is_set a k) (is_set b k) (apart_at a b k p.apart))

-- AND with a number of at most 64 bits has at most 64 bits
pub and_fits : (a b : ℕ) → a < 2 ^ 64 → bit_and a b < 2 ^ 64
and_fits a b h = let l = and_le_l a b in omega arith

-- the rows of AND have no lane that is both Zero and One
pub and_apart : (a b c d : ℕ) → AreApart a b → AreApart c d → AreApart (bit_or a c) (bit_and b d)
and_apart a b c d p q =
    apart_of (bit_or a c) (bit_and b d) (or_lt 64 a c p.zeros_fit q.zeros_fit) (and_fits b d p.ones_fit)
    (λ k. (λ i. set_or a c k i && set_and b d k i) ∙ and_apart_told (is_set a k) (is_set b k) (is_set c k)
    (is_set d k) (apart_at a b k p.apart) (apart_at c d k q.apart))

-- the rows of OR have no lane that is both Zero and One
pub or_apart : (a b c d : ℕ) → AreApart a b → AreApart c d → AreApart (bit_and a c) (bit_or b d)
or_apart a b c d p q =
    apart_of (bit_and a c) (bit_or b d) (and_fits a c p.zeros_fit) (or_lt 64 b d p.ones_fit q.ones_fit)
    (λ k. (λ i. set_and a c k i && set_or b d k i) ∙ or_apart_told (is_set a k) (is_set b k) (is_set c k) (is_set d k)
    (apart_at a b k p.apart) (apart_at c d k q.apart))

-- the rows of XOR have no lane that is both Zero and One
pub xor_apart : (a b c d : ℕ) → AreApart a b → AreApart c d
    → AreApart (bit_or (bit_and a c) (bit_and b d)) (bit_or (bit_and a d) (bit_and b c))
xor_apart a b c d p q =
    apart_of (bit_or (bit_and a c) (bit_and b d)) (bit_or (bit_and a d) (bit_and b c))
    (or_lt 64 _ _ (and_fits a c p.zeros_fit) (and_fits b d p.ones_fit))
    (or_lt 64 _ _ (and_fits a d p.zeros_fit) (and_fits b c p.ones_fit))
    (λ k. (λ i. set_two a c b d k i && set_two a d b c k i) ∙ xor_apart_told (is_set a k) (is_set b k) (is_set c k)
    (is_set d k) (apart_at a b k p.apart) (apart_at c d k q.apart))

le_or_lt : (a b : ℕ) → (a ≤ b) ⊎ (b < a)
le_or_lt a b = grind (arith, nat_tests)

-- the same, where the lanes alone are looked at
pub apart_below : (a b : ℕ) → a < 2 ^ 64 → b < 2 ^ 64 → ((k : ℕ) → k < 64 → (is_set a k && is_set b k) ≡ false)
    → AreApart a b
apart_below a b f g h =
    apart_of a b f g (λ k. elim (le_or_lt 64 k) [
      | inl above ↦ ap (λ n. eqb n 1 && is_set b k) (bit_at_above a 64 k f above)
      | inr below ↦ h k below
    ])
