-- Gates that form a cycle are those of no circuit.
use Rattle.std.proofs.Common.{◌≡◌, ℕ, zero, suc, ◌<◌, ◌≤◌, ◌+◌, ◌-◌, List, [], length, get_or, map, sym, ◌∙◌, ap, subst, arith, Contains}
use Rattle.std.proofs.lemmas.List.{length-map, get_or-map, get_or_default}
use Rattle.ht_net.specs.Circuit.Lists.{IsCycle}
use Rattle.ht_net.specs.Circuit.Netlist.{Netlist, IsCircuit, first_gate_net, gate_at, arg_at, no_net}
use Rattle.ht_net.specs.Build.Named.{Name, NamedGate, name_of, named_of}
use Rattle.ht_net.proofs.CycleLaws.{no_cycle}
use Rattle.ht_net.specs.Build.Finish.{Feeds}
use Rattle.ht_bench.proofs.NamedPartLaws.{gate_named, named_gates_count, get_or-named_gates}
use Rattle.ht_net.proofs.NameCycleLaws.{no_named_gate}
use Rattle.ht_net.proofs.PlaceLaws.{place_in, place_at}

-- a pin of a gate in a circuit, by the places of its net and of the gate's net
pub record IsPin (c : Netlist) (a b : Name) : Type 0 where
  pub gate : ℕ
  pub is_gate : gate < length c.gates
  pub pin : ℕ
  pub is_pin : pin < length (gate_at c gate).args
  pub out : place_in c.names b ≡ first_gate_net c + gate
  pub arg : place_in c.names a ≡ arg_at c gate pin

module _ (c : Netlist) (is : IsCircuit c) where
  pin_of : (a b : Name) → Feeds (named_of c).gates a b → IsPin c a b
  pin_of a b feeds =
      let at = feeds.is_gate in
      let within : at.0 < length c.gates = omega (arith, at.1, named_gates_count c (first_gate_net c) c.gates) in
      let gate_is : gate_named c (first_gate_net c + at.0) (gate_at c at.0) ≡ feeds.gate =
      sym (get_or-named_gates c (first_gate_net c) c.gates at.0 within)
      ∙ get_or_default (named_of c).gates at.0 no_named_gate feeds.gate at.1 ∙ at.2 in
      let args = (gate_at c at.0).args in
      let there : Contains (map (name_of c) args) a = subst (λ (g : NamedGate). Contains g.args a) (sym gate_is)
      feeds.arg in
      let inside : there.0 < length (gate_at c at.0).args = omega (arith, there.1, length-map args (name_of c)) in
      let name : get_or c.names (arg_at c at.0 there.0) [] ≡ a =
      sym (get_or-map (name_of c) args there.0 no_net a inside) ∙ there.2 in
      let out_name : get_or c.names (first_gate_net c + at.0) [] ≡ b =
      ap (λ (g : NamedGate). g.out) gate_is ∙ feeds.out in
      record {
        gate = at.0;
        is_gate = within;
        pin = there.0;
        is_pin = inside;
        out = ap (place_in c.names) (sym out_name) ∙ place_at c.names (first_gate_net c + at.0) is.names_differ
            (omega (arith, within, is.named));
        arg = ap (place_in c.names) (sym name) ∙ place_at c.names (arg_at c at.0 there.0) is.names_differ
            (omega (arith, is.known at.0 there.0 within inside, is.named));
      }

  -- the rank of the gate that drives a net
  rank_at : Name → ℕ
  rank_at name = is.ranked.0 (place_in c.names name - first_gate_net c)

  rises : (a b : Name) → IsPin c a b → first_gate_net c ≤ place_in c.names a → rank_at a < rank_at b
  unfolding rank_at
  rises a b pin driven =
      let up = is.ranked.1.falls pin.gate pin.pin pin.is_gate pin.is_pin (omega (arith, driven, pin.arg)) in
      let from : place_in c.names a - first_gate_net c ≡ arg_at c pin.gate pin.pin - first_gate_net c = ap
      (λ n. n - first_gate_net c) pin.arg in
      let to : place_in c.names b - first_gate_net c ≡ pin.gate = omega (arith, pin.out) in
      subst (λ n. is.ranked.0 n < is.ranked.0 (place_in c.names b - first_gate_net c)) (sym from)
      (subst (λ n. is.ranked.0 (arg_at c pin.gate pin.pin - first_gate_net c) < is.ranked.0 n) (sym to) up)

  module _ (cycle : List Name) (h : IsCycle (Feeds (named_of c).gates) cycle) where
    -- each net of the cycle is driven by a gate
    driven_at : (k : ℕ) → k < length cycle → first_gate_net c ≤ place_in c.names (get_or cycle k [])
    driven_at zero lt =
        let pin = pin_of (get_or cycle (length cycle - 1) []) (get_or cycle 0 []) (h.closes [])
        in omega (arith, pin.out)
    driven_at (suc k) lt =
        let z : k + 1 ≡ suc k = omega arith in
        let pin = subst (λ n. IsPin c (get_or cycle k []) (get_or cycle n [])) z
        (pin_of (get_or cycle k []) (get_or cycle (k + 1) []) (h.next k [] (omega arith))) in
        omega (arith, pin.out)

    is_driven : (a : Name) → Contains cycle a → first_gate_net c ≤ place_in c.names a
    is_driven a at = subst (λ n. first_gate_net c ≤ place_in c.names n) (get_or_default cycle at.0 [] a at.1 ∙ at.2)
        (driven_at at.0 at.1)

    -- the gates of a circuit form no cycle of nets
    pub no_circuit : ⊥
    no_circuit = no_cycle (Feeds (named_of c).gates) rank_at cycle []
        (λ a b at _ feeds. rises a b (pin_of a b feeds) (is_driven a at)) h
