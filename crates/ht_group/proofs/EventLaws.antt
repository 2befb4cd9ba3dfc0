-- A net is evaluated: those that don't read it keep their values.
use Rattle.std.specs.List.{Contains}
use Rattle.std.proofs.Common.{◌≡◌, ◌≢◌, ◌<◌, ◌≤◌, ◌+◌, ◌-◌, ◌*◌, ◌∙◌, ℕ, List, [], Bool, true, false, length, get_or, cond, nat_lt, ap, sym, subst, arith, inl, inr}
use Rattle.std.proofs.lemmas.Bool.Decides.{eqb_tells, nat_tests}
use Rattle.std.proofs.lemmas.Bool.{cases_eq, cases_lt}
use Rattle.std.proofs.Math.Nat.{mul-le-mul_left}
use Rattle.ht_net.specs.Circuit.Netlist.{Netlist, first_gate_net, net_count}
use Rattle.ht_net.specs.Frames.Frame.{Rules}
use Rattle.ht_net.proofs.FrameLaws.{le_or_lt}
use Rattle.ht_group.specs.LaneRules.{given_value, HasItsValue}
use Rattle.ht_group.specs.Pending.{IsFired}
use Rattle.ht_events.specs.Schedules.{ReadsFrom, IsSchedule}
use Rattle.ht_events.specs.declared.schedule.Schedule.{Schedule}
use Rattle.ht_group.proofs.DriveLaws.{drive_same}
use Rattle.ht_events.proofs.ScheduleLaws.{no_self}

module _ (c : Netlist) (s : Schedule) (is : IsSchedule c s) where
  rank_of_net : (r : ℕ) → r < net_count c → get_or s.ranks.items (get_or s.order.items r 0) 0 ≡ r
  rank_of_net r inside = is.ranks.forth r inside

  other_net : (q r : ℕ) → q < net_count c → r < net_count c → q ≢ r
      → get_or s.order.items q 0 ≢ get_or s.order.items r 0
  other_net q r a b ne e = ne (sym (rank_of_net q a)
      ∙ (ap (λ (x : ℕ). get_or s.ranks.items x 0) e ∙ rank_of_net r b))

  -- The net of a rank gets its value, and no other changes. Another that isn't pending afterwards wasn't before, and
  -- what it reads is as it was.
  pub fired_quiet : {V : Type 0} → (r : Rules V) (sources : List V) (e f : ℕ → V) (pending pending' : List Bool)
      (rank x : ℕ)
      → rank < net_count c → x ≡ get_or s.order.items rank 0
      → f x ≡ given_value c r sources e x → ((y : ℕ) → y ≢ x → f y ≡ e y)
      → ((q : ℕ) → q < net_count c → q ≢ rank → get_or pending' q false ≡ false
      → (get_or pending q false ≡ false) × ((z : ℕ) → ReadsFrom c (get_or s.order.items q 0) z → f z ≡ e z))
      → ((q : ℕ) → q < net_count c → get_or pending q false ≡ false
      → HasItsValue c r sources e (get_or s.order.items q 0))
      → (q : ℕ) → q < net_count c → get_or pending' q false ≡ false
      → HasItsValue c r sources f (get_or s.order.items q 0)
  fired_quiet r sources e f pending pending' rank x inside net given others kept quiet q within idle =
      let y = get_or s.order.items q 0 in
      let same : (z : ℕ) → ((v : ℕ) → ReadsFrom c z v → f v ≡ e v) → z < net_count c
      → given_value c r sources e z ≡ given_value c r sources f z =
      λ z reads known. ap (r.stem z) (drive_same c r sources e f z known (λ v read. sym (reads v read))) in
      elim (eqb_tells q rank) [
        | inl p ↦
            subst (λ (z : ℕ). HasItsValue c r sources f z) (net ∙ ap (λ (n : ℕ). get_or s.order.items n 0) (sym p.1))
            (given ∙ same x
            (λ v read. others v (λ is_x. no_self c s is x (subst (λ (z : ℕ). ReadsFrom c x z) is_x read)))
            (subst (λ (z : ℕ). z < net_count c) (sym net) (is.ranks.known rank inside)))
        | inr p ↦
            let k = kept q within p.1 idle in
            others y (λ is_x. other_net q rank within inside p.1 (is_x ∙ net))
            ∙ (quiet q within k.0 ∙ same y k.1 (is.ranks.known q within))
      ]

  -- A net that isn't among the readers of another doesn't read it.
  pub apart_by_readers : (q x : ℕ) → q < net_count c → ¬ Contains (get_or s.readers x []) q
      → ¬ ReadsFrom c (get_or s.order.items q 0) x
  apart_by_readers q x inside apart reads =
      apart (subst (λ (r : ℕ). Contains (get_or s.readers x []) r) (rank_of_net q inside)
      (is.readers.complete (get_or s.order.items q 0) x reads))

-- A net that isn't pending after those in a row were made pending isn't among them.
pub not_touched : (touched : List Bool) (row : List ℕ) → ((r : ℕ) → Contains row r → get_or touched r false ≡ true)
    → (q : ℕ) → get_or touched q false ≡ false → ¬ Contains row q
not_touched touched row all q idle has = let bad : true ≡ false = sym (all q has) ∙ idle in cc

-- the evaluations up to a rank, and those of the rank
steps_more : (steps from rank first used more : ℕ) → steps ≤ (from - first) * used → from ≤ rank
    → more ≡ cond (nat_lt rank first) 0 used → steps + more ≤ (rank + 1 - first) * used
steps_more steps from rank first used more before le is = elim (le_or_lt first rank) [
  | inl gate ↦
      let price : more ≡ used = grind (arith, nat_tests) in
      let less : from - first ≤ rank - first = omega (arith, le) in
      let up : used * (from - first) ≤ used * (rank - first) = mul-le-mul_left used less in
      let at : rank + 1 - first ≡ rank - first + 1 = omega (arith, gate) in
      let next : (rank + 1 - first) * used ≡ (rank - first + 1) * used = ap (λ (n : ℕ). n * used) at in
      omega (arith, price, up, next, before)
  | inr source ↦
      let price : more ≡ 0 = grind (arith, nat_tests) in
      let none : from - first ≡ 0 = omega (arith, le, source) in
      let low : (from - first) * used ≡ 0 * used = ap (λ (n : ℕ). n * used) none in
      omega (arith, price, low, before)
]

-- How far a pass is: no net before a rank is pending, and so many evaluations were made.
pub record IsPassed (c : Netlist) (used : ℕ) (pending : List Bool) (from evaluated : ℕ) : Type 0 where
  pub marks : length pending ≡ net_count c
  pub done : (r : ℕ) → r < from → get_or pending r false ≡ false
  pub within : from ≤ net_count c
  pub steps : evaluated ≤ (from - first_gate_net c) * used

-- The next net that is pending is evaluated.
pub passed_on : (c : Netlist) (s : Schedule) (used : ℕ) (before pending : List Bool) (from rank evaluated more : ℕ)
    (changed : Bool) → from ≤ rank → rank < length before
    → ((q : ℕ) → from ≤ q → q < rank → get_or before q false ≡ false) → IsFired c s rank changed before pending
    → more ≡ cond (nat_lt rank (first_gate_net c)) 0 used → IsPassed c used before from evaluated
    → IsPassed c used pending (rank + 1) (evaluated + more)
passed_on c s used before pending from rank evaluated more changed on inside least fired price passed = record {
  marks = fired.marks ∙ passed.marks;
  done = λ r below. elim (cases_eq r rank) [
    | inl e ↦ ap (λ (n : ℕ). get_or pending n false) e ∙ fired.taken
    | inr ne ↦ fired.earlier r (omega (arith, below, ne)) ∙ elim (cases_lt r from) [
      | inl low ↦ passed.done r low
      | inr high ↦ least r high (omega (arith, below, ne))
    ]
  ];
  within = omega (arith, inside, passed.marks);
  steps = steps_more evaluated from rank (first_gate_net c) used more passed.steps on price;
}
