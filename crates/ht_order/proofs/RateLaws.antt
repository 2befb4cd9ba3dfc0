-- Rates are in order.
use Rattle.std.proofs.Common.{◌≡◌, ◌<◌, ◌≤◌, ◌*◌, ℕ, true, false, inl, inr, max, arith}
use Rattle.std.proofs.Math.Nat.{le-max_right, mul_right_comm}
use Rattle.std.proofs.lemmas.Nat.{mul-le, row_fits}
use Rattle.std.proofs.lemmas.Bool.{cases_lt, le-ltb, ltb-false, ltb-true}
use Rattle.ht_order.specs.declared.rate.Rate.{Rate}
use Rattle.ht_order.specs.Rates.{is_higher}

-- no more classes for the same work, and again no more, are no more
at_most_twice : (a b c u v w : ℕ) → 0 < v → b * u ≤ a * v → c * v ≤ b * w → c * u ≤ a * w
at_most_twice a b c u v w some ab bc =
    let first = mul-le (c * v) u (b * w) u bc (omega arith) in
    let second = mul-le (b * u) w (a * v) w ab (omega arith) in
    let cs = mul_right_comm c u v in
    let bs = mul_right_comm b w u in
    let turned = mul_right_comm a w v in
    elim (cases_lt (a * w) (c * u)) [
      | inl more ↦
          absurd (omega (arith, some, first, second, cs, bs, turned, row_fits (a * w) v (c * u) v more (omega arith)))
      | inr few ↦ few
    ]

-- Where b isn't higher than a, and c not than b, c isn't higher than a.
pub not_higher_twice : (a b c : Rate) → is_higher b a ≡ false → is_higher c b ≡ false → is_higher c a ≡ false
not_higher_twice a b c ba cb =
    let some : 0 < max b.work 1 = omega (arith, le-max_right b.work 1) in
    let ab = ltb-false (a.classes * max b.work 1) (b.classes * max a.work 1) ba in
    let bc = ltb-false (b.classes * max c.work 1) (c.classes * max b.work 1) cb in
    le-ltb (a.classes * max c.work 1) (c.classes * max a.work 1)
    (at_most_twice a.classes b.classes c.classes (max a.work 1) (max b.work 1) (max c.work 1) some ab bc)

-- A rate that is higher than another isn't lower.
pub higher_one_way : (a b : Rate) → is_higher a b ≡ true → is_higher b a ≡ false
higher_one_way a b ab =
    let less = ltb-true (b.classes * max a.work 1) (a.classes * max b.work 1) ab in
    le-ltb (a.classes * max b.work 1) (b.classes * max a.work 1) (omega (arith, less))

-- No rate is higher than itself.
pub not_higher_itself : (a : Rate) → is_higher a a ≡ false
not_higher_itself a = le-ltb (a.classes * max a.work 1) (a.classes * max a.work 1) (omega arith)
