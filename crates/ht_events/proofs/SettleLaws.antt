-- The items before the one that is fired next.
use Rattle.std.proofs.Common.{◌≡◌, ◌<◌, ◌≤◌, ◌+◌, ◌*◌, ◌⊎◌, inl, inr, ℕ, suc, arith, subst}
use Rattle.std.proofs.Math.Nat.{suc-mul, mul-le-mul_right}
use Rattle.std.proofs.lemmas.Bool.Decides.{eqb_tells}
use Rattle.ht_events.specs.Items.{IsLoad, item_count}
use Rattle.ht_events.specs.Plans.{HasPosition, position_at}
use Rattle.ht_events.specs.Pending.{CoreState, IsPending}

-- once the first pending item is fired, none is pending up to where it stands
pub none_below : (s t : CoreState) (item position : ℕ) → HasPosition s.plan item position
    → ((y : ℕ) → y < item_count s.plan.circuit s.plan.frames → position_at s.plan y < position → ¬ IsPending s y)
    → ¬ IsPending t item
    → ((y : ℕ) → y < item_count s.plan.circuit s.plan.frames → IsPending t y
    → IsPending s y ⊎ IsLoad s.plan.circuit s.plan.frames item y)
    → (y : ℕ) → y < item_count s.plan.circuit s.plan.frames → position_at s.plan y < position + 1 → ¬ IsPending t y
none_below s t item position placed first taken only y known low p = elim (only y known p) [
  | inl old ↦ elim (eqb_tells (position_at s.plan y) position) [
    | inl e ↦ taken (subst (λ (z : ℕ). IsPending t z) (placed.only y known e.1) p)
    | inr e ↦ let ne = e.1 in first y known (omega (arith, low, ne)) old
  ]
  | inr load ↦ let l = placed.later y load in absurd (omega (arith, l, low))
]

-- what is spent up to a position: the price of each before it, and of one more
pub spends : (old now new price at from to : ℕ) → now ≤ old + from * price → price ≡ at → new ≤ now + at → from < to
    → new ≤ old + to * price
spends old now new price at from to before same one less =
    let more = suc-mul from price in
    let room : suc from * price ≤ to * price = mul-le-mul_right price (omega (arith, less)) in
    omega (arith, more, room, before, same, one)

-- up to the last
pub spends_most : (old now price from all : ℕ) → now ≤ old + from * price → from ≤ all → now ≤ old + all * price
spends_most old now price from all before few =
    let room : from * price ≤ all * price = mul-le-mul_right price few in
    omega (arith, room, before)
