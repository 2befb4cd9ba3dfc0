-- The ranks of nets rise from what a gate reads to its own, so a net that is evaluated in the order of a schedule makes
-- later ones pending.
use Rattle.std.specs.Prelude.{set}
use Rattle.std.specs.List.{Contains}
use Rattle.std.proofs.Common.{◌≡◌, ◌≢◌, ◌<◌, ◌≤◌, ◌+◌, ◌-◌, ◌∙◌, ℕ, List, [], Bool, false, length, get_or, ap, subst, arith}
use Rattle.std.proofs.lemmas.List.{get_or-set_same, get_or-set_other}
use Rattle.std.proofs.lemmas.List.Elements.{Contains-get_or}
use Rattle.ht_net.specs.Circuit.Netlist.{Netlist, first_gate_net, net_count}
use Rattle.ht_events.specs.Ranks.{AreRanked}
use Rattle.ht_events.specs.Schedules.{IsSchedule, ReadsFrom}
use Rattle.ht_events.specs.declared.schedule.Schedule.{Schedule}

-- a net has a lower rank than each net that reads from it
pub rises_from : (c : Netlist) (order ranks : List ℕ) → AreRanked c (first_gate_net c) order ranks → (y x : ℕ)
    → ReadsFrom c y x → get_or ranks x 0 < get_or ranks y 0
rises_from c order ranks is y x on =
    let gate = on.is_gate in
    let at : first_gate_net c + (y - first_gate_net c) ≡ y = omega (arith, gate) in
    subst (λ (k : ℕ). get_or ranks x 0 < get_or ranks k 0) at (is.rises (y - first_gate_net c) x (record {
      pin = on.pin;
      is_gate = omega (arith, gate, on.known);
      is_pin = on.is_pin;
      reads = omega (arith, on.reads);
    }))

module _ (c : Netlist) (s : Schedule) (is : IsSchedule c s) where
  -- no net reads itself
  pub no_self : (x : ℕ) → ¬ ReadsFrom c x x
  no_self x reads =
      let less = rises_from c s.order.items s.ranks.items is.ranks x x reads in
      absurd (omega (arith, less))

  -- The row of a net's readers has only ranks that are there, and none up to that of the net.
  module _ (x : ℕ) (row : List ℕ) (row_is : row ≡ get_or s.readers x []) where
    has_reader : (r : ℕ) → Contains row r → Contains (get_or s.readers x []) r
    has_reader r has = subst (λ (l : List ℕ). Contains l r) row_is has

    -- each rank in a net's row is below the number of nets
    pub readers_known : (k d : ℕ) → k < length row → get_or row k d < net_count c
    readers_known k d within =
        is.readers.within x (get_or row k d) (has_reader (get_or row k d) (Contains-get_or row k d within))

    -- a net's row has no rank up to that of the net
    pub readers_later : (rank : ℕ) → rank < net_count c → x ≡ get_or s.order.items rank 0
        → (r : ℕ) → r ≤ rank → ¬ Contains row r
    readers_later rank inside net_is r below has =
        let less = is.readers.later x r (has_reader r has) in
        let at = ap (λ (y : ℕ). get_or s.ranks.items y 0) net_is ∙ is.ranks.forth rank inside in
        absurd (omega (arith, less, at, below))

-- What is pending after the net of a rank was evaluated and those in a row were made pending.
module _ (pending removed touched : List Bool) (row : List ℕ) (rank : ℕ) (is : removed ≡ set pending rank false)
    (rest : (r : ℕ) → ¬ Contains row r → get_or touched r false ≡ get_or removed r false) where
  -- after a net was evaluated, a rank that is not its own and not in its row is pending as it was before
  pub touched_as_before : (q : ℕ) → q ≢ rank → ¬ Contains row q → get_or touched q false ≡ get_or pending q false
  touched_as_before q ne apart =
      rest q apart ∙ (ap (λ (l : List Bool). get_or l q false) is ∙ get_or-set_other pending rank q false false ne)

  -- after a net was evaluated, its rank is pending no more, if its row does not have it
  pub rank_taken : rank < length pending → ¬ Contains row rank → get_or touched rank false ≡ false
  rank_taken inside apart =
      rest rank apart ∙ (ap (λ (l : List Bool). get_or l rank false) is
      ∙ get_or-set_same pending rank false false inside)
