-- One pair of faults gets one leader, and what that leaves as it was.
use Rattle.std.proofs.Common.{◌≡◌, ◌≢◌, ◌<◌, ◌+◌, ◌*◌, ℕ, List, Bool, false, cond, Option, Some, None, length, get_or, set, refl, sym, ◌∙◌, ap, arith, inl, inr, subst, get_or-set_other, get_or-set_same}
use Rattle.std.proofs.lemmas.Bool.{cases_eq}
use Rattle.std.proofs.lemmas.List.{length-set}
use Rattle.std.proofs.lemmas.Option.{same_Some}
use Rattle.ht_net.specs.declared.fault.Site.{Site}
use Rattle.ht_net.specs.declared.fault.Site.TheVariants.{Stem, GatePin}
use Rattle.ht_net.specs.declared.fault.Fault.{Fault}
use Rattle.ht_net.specs.Circuit.Netlist.{Netlist, first_gate_net, net_count, gate_at, arg_at, IsCircuit}
use Rattle.ht_faults.specs.Sites.{is_fanout}
use Rattle.ht_faults.specs.Classes.{EquivalentPair, SameClass, paired, joined, fault_at}
use Rattle.ht_faults.specs.Leaders.{stem_number, output_value, output_number, united, StayInClass}
use Rattle.ht_net.proofs.DepthLaws.{circuit_depth}
use Rattle.ht_faults.proofs.FaultListLaws.{stem_listed, number_same, number_below}

-- What holds of each place of a list and its number holds after a write, if it holds of what is written.
set_keeps : (P : ℕ → ℕ → Type 0) (numbers : List ℕ) (i value : ℕ) → P i value
    → ((j : ℕ) → j < length numbers → P j (get_or numbers j 0))
    → (j : ℕ) → j < length numbers → P j (get_or (set numbers i value) j 0)
set_keeps P numbers i value here others j inside = elim (cases_eq j i) [
  | inl e ↦
      let room : i < length numbers = omega arith in
      subst (λ (n : ℕ). P n (get_or (set numbers i value) n 0)) (sym e)
      (subst (P i) (sym (get_or-set_same numbers i value 0 room)) here)
  | inr ne ↦ subst (P j) (sym (get_or-set_other numbers i j value 0 ne)) (others j inside)
]

-- the leaders after the stem's fault of one value at pin i of gate g is united with the output's
abbrev pub unites : Netlist → ℕ → ℕ → Bool → List ℕ → List ℕ
unites c g i v leaders = united c g (stem_number (arg_at c g i) v) (output_value c g v) leaders

-- the pair of one value at pin k has one leader
abbrev pub ValueJoins : Netlist → ℕ → List ℕ → ℕ → Bool → Type 0
ValueJoins c g leaders k u = (w : Bool) → is_fanout c (arg_at c g k) ≡ false → output_value c g u ≡ Some w
    → get_or leaders (stem_number (arg_at c g k) u) 0 ≡ get_or leaders (output_number c g w) 0

-- What uniting the faults of one value gives.
pub record IsUnited (c : Netlist) (g i : ℕ) (v : Bool) (leaders : List ℕ) : Type 0 where
  pub stay : StayInClass c leaders → StayInClass c (unites c g i v leaders)
  pub join : length leaders ≡ 2 * net_count c → ValueJoins c g (unites c g i v leaders) i v
  pub keep : length leaders ≡ 2 * net_count c → (k : ℕ) (u : Bool) → ValueJoins c g leaders k u
      → ValueJoins c g (unites c g i v leaders) k u
  pub long : length (unites c g i v leaders) ≡ length leaders
  pub others : (k : ℕ) → k ≢ stem_number (arg_at c g i) v
      → get_or (unites c g i v leaders) k 0 ≡ get_or leaders k 0

-- pin i of gate g, whose net has one load
module _ (c : Netlist) (circuit : IsCircuit c) (g i : ℕ) (inside : g < length c.gates)
    (pin : i < length (gate_at c g).args) (single : is_fanout c (arg_at c g i) ≡ false) where
  -- an equivalent pair, by number
  stem_paired : (v w : Bool) → output_value c g v ≡ Some w → SameClass c (fault_at c (stem_number (arg_at c g i) v))
      (fault_at c (output_number c g w))
  stem_paired v w values =
      let input : Fault = record { site = Stem (record { 0 = arg_at c g i }); value = v } in
      let output : Fault = record { site = Stem (record { 0 = first_gate_net c + g }); value = w } in
      let pair : EquivalentPair c (record { site = Stem (record { 0 = arg_at c g i }); value = v })
      (record { site = Stem (record { 0 = first_gate_net c + g }); value = w }) = record {
        gate = g;
        is_gate = inside;
        pin = i;
        is_pin = pin;
        at_input = sym (ap (λ (b : Bool). let s : Site = cond b (GatePin g i) (Stem (record { 0 = arg_at c g i })) in s)
            single);
        at_output = refl;
        values = values;
      } in
      subst (λ (f : Fault). SameClass c f (fault_at c (output_number c g w)))
      (sym (stem_listed c (arg_at c g i) v (circuit.known g i inside pin)))
      (subst (λ (f : Fault). SameClass c input f) (sym (stem_listed c (first_gate_net c + g) w (omega arith)))
      (paired input output pair))

  not_output : first_gate_net c + g ≢ arg_at c g i
  not_output e =
      let d = circuit_depth c circuit in
      let below = d.1.falls g i inside pin in
      let same = ap d.0 e in
      absurd (omega arith)

  unites_others : (v : Bool) (leaders : List ℕ) (k : ℕ) → k ≢ stem_number (arg_at c g i) v
      → get_or (unites c g i v leaders) k 0
      ≡ get_or leaders k 0
  unites_others v leaders k ne = go (output_value c g v)
    where
      go : (o : Option Bool) → get_or (united c g (stem_number (arg_at c g i) v) o leaders) k 0 ≡ get_or leaders k 0
      go None = refl
      go (Some w) = get_or-set_other leaders (stem_number (arg_at c g i) v) k (get_or leaders (output_number c g w) 0) 0
          ne

  outputs_stay : (v : Bool) (leaders : List ℕ) (w : Bool) → get_or (unites c g i v leaders) (output_number c g w) 0
      ≡ get_or leaders (output_number c g w) 0
  outputs_stay v leaders w = unites_others v leaders (output_number c g w)
      (λ e. not_output (number_same (first_gate_net c + g) (arg_at c g i) w v e).0)

  unites_stay : (v : Bool) (leaders : List ℕ) → StayInClass c leaders → StayInClass c (unites c g i v leaders)
  unites_stay v leaders h = go (output_value c g v) refl
    where
      go : (o : Option Bool) → output_value c g v ≡ o
          → StayInClass c (united c g (stem_number (arg_at c g i) v) o leaders)
      go None values = h
      go (Some w) values =
          let input : ℕ = stem_number (arg_at c g i) v in
          let leader : ℕ = get_or leaders (output_number c g w) 0 in
          let long = length-set leaders (stem_number (arg_at c g i) v) (get_or leaders (output_number c g w) 0) in
          let out : output_number c g w < length leaders = let b = number_below (first_gate_net c + g) (net_count c) w
          (omega arith) in let e = h.every in omega arith in
          record {
            every = long ∙ h.every;
            known = λ j l.
                let inside : j < length leaders = omega arith in
                let low = set_keeps (λ n m. m < length leaders) leaders input leader (h.known (output_number c g w) out)
                h.known
                j inside in
                omega (arith, low, long);
            member = λ j l.
                set_keeps (λ n m. SameClass c (fault_at c n) (fault_at c m)) leaders input leader
                (joined _ _ _ (stem_paired v w values) (h.member (output_number c g w) out)) h.member j (omega arith);
          }

  unites_join : (v : Bool) (leaders : List ℕ) → length leaders ≡ 2 * net_count c
      → ValueJoins c g (unites c g i v leaders) i v
  unites_join v leaders long w alone values = go (output_value c g v) refl ∙ sym (outputs_stay v leaders w)
    where
      go : (o : Option Bool) → output_value c g v ≡ o → get_or (united c g (stem_number (arg_at c g i) v) o leaders)
          (stem_number (arg_at c g i) v) 0 ≡ get_or leaders (output_number c g w) 0
      go None is = absurd (none_is (sym is ∙ values))
        where
          none_is : None ≡ Some w → ⊥
          none_is h = cc
      go (Some u) is =
          let room = number_below (arg_at c g i) (net_count c) v (circuit.known g i inside pin) in
          let same : u ≡ w = same_Some u w (sym is ∙ values) in
          get_or-set_same leaders (stem_number (arg_at c g i) v) (get_or leaders (output_number c g u) 0) 0
          (omega arith)
          ∙ ap (λ (b : Bool). get_or leaders (output_number c g b) 0) same

  unites_keep : (v : Bool) (leaders : List ℕ) → length leaders ≡ 2 * net_count c → (k : ℕ) (u : Bool)
      → ValueJoins c g leaders k u
      → ValueJoins c g (unites c g i v leaders) k u
  unites_keep v leaders long k u old w alone values = elim
      (cases_eq (stem_number (arg_at c g k) u) (stem_number (arg_at c g i) v)) [
        | inl e ↦
            let same = number_same (arg_at c g k) (arg_at c g i) u v e in
            ap (λ (n : ℕ). get_or (unites c g i v leaders) n 0) e
            ∙ unites_join v leaders long w single (sym (ap (output_value c g) same.1) ∙ values)
        | inr ne ↦ unites_others v leaders (stem_number (arg_at c g k) u) ne ∙
            (old w alone values ∙ sym (outputs_stay v leaders w))
      ]

  unites_length : (v : Bool) (leaders : List ℕ) → length (unites c g i v leaders) ≡ length leaders
  unites_length v leaders = go (output_value c g v)
    where
      go : (o : Option Bool) → length (united c g (stem_number (arg_at c g i) v) o leaders) ≡ length leaders
      go None = refl
      go (Some w) = length-set leaders (stem_number (arg_at c g i) v) (get_or leaders (output_number c g w) 0)

  -- uniting a stem's fault at a pin with the output's gives the pair one leader, and leaves those of all other faults
  pub value_united : (v : Bool) (leaders : List ℕ) → IsUnited c g i v leaders
  value_united v leaders = record {
    stay = unites_stay v leaders;
    join = unites_join v leaders;
    keep = unites_keep v leaders;
    long = unites_length v leaders;
    others = unites_others v leaders;
  }
