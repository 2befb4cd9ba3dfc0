-- The gates of an order, from the last to the first.
use Rattle.std.proofs.Common.{◌≡◌, ◌≢◌, ◌<◌, ◌≤◌, ◌+◌, ◌*◌, ℕ, List, length, get_or, refl, sym, ◌∙◌, arith, inl, inr, subst}
use Rattle.std.proofs.lemmas.Bool.{cases_eq}
use Rattle.ht_net.specs.Circuit.Netlist.{Netlist, first_gate_net, net_count, gate_at, arg_at, IsCircuit, IsOrder, IsReady}
use Rattle.ht_faults.specs.Classes.{SameClass, itself, fault_at}
use Rattle.ht_faults.specs.Leaders.{stem_number, output_number, StayInClass, GateJoins, OthersStay}
use Rattle.ht_faults.proofs.LoadLaws.{read_by}
use Rattle.ht_faults.proofs.FaultListLaws.{number_same}

-- every fault leads to itself
pub own_stay : (c : Netlist) (leaders : List ℕ) → length leaders ≡ 2 * net_count c
    → ((k : ℕ) → k < 2 * net_count c → get_or leaders k 0 ≡ k) → StayInClass c leaders
own_stay c leaders long own = record {
  every = long;
  known = λ k l. let e = own k (omega arith) in omega arith;
  member = λ k l. subst (λ (n : ℕ). SameClass c (fault_at c k) (fault_at c n)) (sym (own k (omega arith)))
      (itself (fault_at c k));
}

module _ (c : Netlist) (order : List ℕ) (circuit : IsCircuit c) (ordered : IsOrder c order) where
  -- No later gate of the order drives an argument of the gate at place k.
  not_later : (k j i : ℕ) → k < j → j < length order → i < length (gate_at c (get_or order k 0)).args → first_gate_net c
      + get_or order j 0 ≢ arg_at c (get_or order k 0) i
  not_later k j i less inside pin same = go (ordered.earlier k i (omega arith) pin)
    where
      go : IsReady c order k (arg_at c (get_or order k 0) i) → ⊥
      go (inl low) = absurd (omega arith)
      go (inr p) =
          let before : p.0 < k = p.1 in
          let net : arg_at c (get_or order k 0) i ≡ first_gate_net c + get_or order p.0 0 = p.2 in
          ordered.each.distinct p.0 j 0 (omega arith) inside (omega arith)

  -- What a later gate joined stays joined when the gate at place k is taken.
  later_stays : (before after : List ℕ) (k j : ℕ) → k < j → j < length order
      → OthersStay c before after (get_or order k 0)
      → GateJoins c before (get_or order j 0) → GateJoins c after (get_or order j 0)
  later_stays before after k j less inside others old = λ i pin. record {
    joins = λ v w single values.
        let alone = read_by c (arg_at c (get_or order j 0) i) (get_or order j 0) i single (ordered.each.within j inside)
        pin
        refl in
        let input = others.stay (stem_number (arg_at c (get_or order j 0) i) v) (λ p u there same.
        let is = number_same (arg_at c (get_or order j 0) i) (arg_at c (get_or order k 0) p) v u same in
        let gate = alone.gates (get_or order k 0) p (ordered.each.within k (omega arith)) there (sym is.0) in
        absurd (ordered.each.distinct k j 0 less inside gate)) in
        let output = others.stay (output_number c (get_or order j 0) w) (λ p u there same.
        let is = number_same (first_gate_net c + get_or order j 0) (arg_at c (get_or order k 0) p) w u same in
        absurd (not_later k j p less inside there is.0)) in
        input ∙ ((old i pin).joins v w single values ∙ sym output);
  }

  -- where the gates after index k of an order have joined their classes and the gate at k does, all from k on have
  pub one_gate : (before after : List ℕ) (k : ℕ) → k < length order → OthersStay c before after (get_or order k 0)
      → GateJoins c after (get_or order k 0)
      → ((j : ℕ) → k + 1 ≤ j → j < length order → GateJoins c before (get_or order j 0))
      → (j : ℕ) → k ≤ j → j < length order → GateJoins c after (get_or order j 0)
  one_gate before after k at others this old j low inside = elim (cases_eq j k) [
    | inl e ↦ subst (λ (n : ℕ). GateJoins c after (get_or order n 0)) (sym e) this
    | inr ne ↦ later_stays before after k j (omega arith) inside others (old j (omega arith) inside)
  ]

  -- where the gates at all indices of an order have joined their classes, all gates of the circuit have
  pub all_gates : (leaders : List ℕ) → ((j : ℕ) → 0 ≤ j → j < length order → GateJoins c leaders (get_or order j 0))
      → (g : ℕ)
      → g < length c.gates → GateJoins c leaders g
  all_gates leaders h g inside =
      let at = ordered.each.covers g inside in
      subst (GateJoins c leaders) at.2 (h at.0 (omega arith) at.1)
