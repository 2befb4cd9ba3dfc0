-- Lanes that are stuck.
use Rattle.std.specs.Prelude.{bit_and, bit_or}
use Rattle.std.specs.Int.{bit_at, bit_not}
use Rattle.std.proofs.Common.{◌≡◌, ◌<◌, ◌^◌, ◌-◌, ◌∙◌, ◌&&◌, ◌||◌, not, zero, suc, ap, sym, ℕ, cond, eqb, Bool, true, false, refl, arith}
use Rattle.std.proofs.lemmas.Nat.Bits.{bit_at-lt, bit_at_not, bit_at-zero}
use Rattle.std.proofs.lemmas.Nat.{or_lt}
use Rattle.std.specs.Int.{w64}
use Rattle.ht_tern.specs.declared.tern.Tern.TheVariants.{Zero, One}
use Rattle.ht_tern.specs.Gate.{tern_of}
use Rattle.ht_items.specs.Bits.{is_set}
use Rattle.ht_lanes.specs.Lanes.{Lanes, lane, stuck_lanes}
use Rattle.ht_lanes.specs.Rows.{AreApart, lane_value, lanes_of}
use Rattle.ht_lanes.specs.Inverse.{apart_at, lane_is}
use Rattle.ht_lanes.proofs.OperationLaws.{told, lanes_same, apart_below, and_fits, set_and, set_or}

-- Some lanes are stuck.
by_false : (a b : Bool) → told ((a && false) || false) ((b && false) || true) ≡ One
by_false true true = refl
by_false true false = refl
by_false false true = refl
by_false false false = refl

by_zero : (a b : Bool) → told ((a && false) || true) ((b && false) || false) ≡ Zero
by_zero true b = refl
by_zero false b = refl

by_kept : (a b v : Bool) → told ((a && true) || (false && not v)) ((b && true) || (false && v)) ≡ told a b
by_kept true b v = refl
by_kept false true v = refl
by_kept false false v = refl

stuck_told : (a b l v : Bool) → told ((a && not l) || (l && not v)) ((b && not l) || (l && v)) ≡ cond l (tern_of v)
    (told a b)
stuck_told a b true true = by_false a b
stuck_told a b true false = by_zero a b
stuck_told a b false v = by_kept a b v

stuck_apart_told : (a b l v : Bool) → (a && b) ≡ false
    → (((a && not l) || (l && not v)) && ((b && not l) || (l && v))) ≡ false
stuck_apart_told true true l v h = cc
stuck_apart_told true false true true h = refl
stuck_apart_told true false true false h = refl
stuck_apart_told true false false v h = refl
stuck_apart_told false true true true h = refl
stuck_apart_told false true true false h = refl
stuck_apart_told false true false v h = refl
stuck_apart_told false false true true h = refl
stuck_apart_told false false true false h = refl
stuck_apart_told false false false v h = refl

-- a bit of a complement
not_test : (x : ℕ) → x < 2 → eqb (1 - x) 1 ≡ not (eqb x 1)
not_test zero h = refl
not_test (suc zero) h = refl
not_test (suc (suc x)) h = absurd (omega (arith, h))

-- a bit of a complement of 64 bits is set where the number's isn't
pub set_not : (n k : ℕ) → n < 2 ^ 64 → k < 64 → is_set (bit_not w64 n) k ≡ not (is_set n k)
set_not n k f h = ap (λ m. eqb m 1) (bit_at_not w64 n k f h) ∙ not_test (bit_at n k) (bit_at-lt n k)

abbrev pub stuck_zeros : ℕ → ℕ → ℕ → ℕ
stuck_zeros a l v = bit_or (bit_and a (bit_not w64 l)) (bit_and l (bit_not w64 v))

abbrev pub stuck_ones : ℕ → ℕ → ℕ → ℕ
stuck_ones b l v = bit_or (bit_and b (bit_not w64 l)) (bit_and l v)

zeros_at : (a l v k : ℕ) → l < 2 ^ 64 → v < 2 ^ 64 → k < 64
    → is_set (stuck_zeros a l v) k ≡ ((is_set a k && not (is_set l k)) || (is_set l k && not (is_set v k)))
zeros_at a l v k f g h =
    set_or (bit_and a (bit_not w64 l)) (bit_and l (bit_not w64 v)) k
    ∙ (λ i. (set_and a (bit_not w64 l) k ∙ ap (λ t. is_set a k && t) (set_not l k f h)) i ||
    (set_and l (bit_not w64 v) k ∙ ap (λ t. is_set l k && t) (set_not v k g h)) i)

ones_at : (b l v k : ℕ) → l < 2 ^ 64 → k < 64
    → is_set (stuck_ones b l v) k ≡ ((is_set b k && not (is_set l k)) || (is_set l k && is_set v k))
ones_at b l v k f h =
    set_or (bit_and b (bit_not w64 l)) (bit_and l v) k
    ∙ (λ i. (set_and b (bit_not w64 l) k ∙ ap (λ t. is_set b k && t) (set_not l k f h)) i || set_and l v k i)

-- rows with a set of lanes stuck at their bits are the rows of the word with these lanes stuck
pub rows_stuck : (w : Lanes) (a b l v : ℕ) → l < 2 ^ 64 → v < 2 ^ 64 → lanes_of a b ≡ w
    → lanes_of (stuck_zeros a l v) (stuck_ones b l v) ≡ stuck_lanes l v w
unfolding lanes_of
rows_stuck w a b l v f g view =
    lanes_same (lane_value (stuck_zeros a l v) (stuck_ones b l v))
    (λ k. cond (is_set l k) (tern_of (is_set v k)) (lane w k))
    (λ k h. (λ i. told (zeros_at a l v k f g h i) (ones_at b l v k f h i))
    ∙ (stuck_told (is_set a k) (is_set b k) (is_set l k) (is_set v k)
    ∙ ap (cond (is_set l k) (tern_of (is_set v k))) (sym (lane_is a b k h) ∙ ap (λ (x : Lanes). lane x k) view)))

-- rows with lanes stuck in them still have no lane that is both Zero and One
pub stuck_apart : (a b l v : ℕ) → l < 2 ^ 64 → v < 2 ^ 64 → AreApart a b
    → AreApart (stuck_zeros a l v) (stuck_ones b l v)
stuck_apart a b l v f g p =
    apart_below (stuck_zeros a l v) (stuck_ones b l v)
    (or_lt 64 _ _ (and_fits a (bit_not w64 l) p.zeros_fit) (and_fits l (bit_not w64 v) f))
    (or_lt 64 _ _ (and_fits b (bit_not w64 l) p.ones_fit) (and_fits l v f))
    (λ k h. (λ i. zeros_at a l v k f g h i && ones_at b l v k f h i)
    ∙ stuck_apart_told (is_set a k) (is_set b k) (is_set l k) (is_set v k) (apart_at a b k p.apart))

-- no lane is stuck
pub none_stuck : (w : Lanes) (a b v : ℕ) → lanes_of a b ≡ w → w ≡ stuck_lanes 0 v w
unfolding lanes_of
none_stuck w a b v view =
    sym view ∙ lanes_same (lane_value a b) (λ k. cond (is_set 0 k) (tern_of (is_set v k)) (lane w k))
    (λ k h. sym (lane_is a b k h) ∙ (ap (λ (x : Lanes). lane x k) view
    ∙ ap (λ n. cond (eqb n 1) (tern_of (is_set v k)) (lane w k)) (sym (bit_at-zero k))))
