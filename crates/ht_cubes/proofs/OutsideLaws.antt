-- Outside a set of nets that encloses a fault, both machines have the same values.
use Rattle.std.proofs.Common.{◌≡◌, ◌<◌, ◌≤◌, ◌+◌, ◌-◌, ℕ, suc, zero, List, [], ◌∷◌, Bool, true, false, Some, None, length, get_or, refl, sym, ◌∙◌, ap, arith, inl, inr, eqb}
use Rattle.std.proofs.lemmas.Bool.{both_ways, ne_eqb, and_left, cond-false, false_from_ne_true}
use Rattle.ht_tern.specs.declared.tern.Tern.{Tern}
use Rattle.ht_tern.specs.declared.tern.Tern.TheVariants.{Unk}
use Rattle.ht_net.specs.declared.net.NetId.{NetId}
use Rattle.ht_net.specs.declared.fault.Fault.{Fault}
use Rattle.ht_net.specs.declared.fault.Site.{Site}
use Rattle.ht_net.specs.declared.fault.Site.TheVariants.{Stem, DffPin, GatePin}
use Rattle.ht_net.specs.Circuit.Netlist.{Netlist, IsCircuit, first_gate_net, net_count, gate_at, arg_at, no_net}
use Rattle.ht_net.specs.Frames.Frame.{pin_values, gate_output, driver_value, net_value_over, net_value_within, net_value, next_state}
use Rattle.ht_net.specs.Frames.Faults.{forced, tern_rules, is_stem, is_pin, is_data_pin}
use Rattle.ht_net.proofs.FrameLaws.{le_or_lt, driven_input, driven_latch, driven_gate}
use Rattle.ht_net.proofs.ValueLaws.{taken_get}
use Rattle.ht_cubes.specs.Rails.{first_changed, Encloses}

-- the value of a line that isn't the stuck one
not_stuck : {V : Type 0} → (stick : Bool → V → V) (fault : Fault) (here : Site → Bool) (v : V)
    → here fault.site ≡ false → forced stick (Some fault) here v ≡ v
unfolding forced
not_stuck stick fault here v h = cond-false (here fault.site) (stick fault.value v) v h

never_stuck : {V : Type 0} → (stick : Bool → V → V) (here : Site → Bool) (v : V) → forced stick None here v ≡ v
unfolding forced
never_stuck stick here v = refl

module _ (c : Netlist) (within : ℕ → Bool) where
  stem_outside : (site : Site) → (first_changed c site < net_count c → within (first_changed c site) ≡ true)
      → (x : ℕ) → x < net_count c → within x ≡ false → is_stem site x ≡ false
  stem_outside (Stem y) h x inside out =
      ne_eqb x y.0 (λ e. both_ways (within x) out (ap within e ∙ h (let l : y.0 < net_count c = omega arith in l)))
  stem_outside (DffPin j) h x inside out = refl
  stem_outside (GatePin g i) h x inside out = refl

  pin_outside : (site : Site) → (first_changed c site < net_count c → within (first_changed c site) ≡ true)
      → (g i : ℕ) → g < length c.gates → within (first_gate_net c + g) ≡ false → is_pin site g i ≡ false
  pin_outside (Stem y) h g i inside out = refl
  pin_outside (DffPin j) h g i inside out = refl
  pin_outside (GatePin f k) h g i inside out = and_left (eqb g f) (eqb i k) (ne_eqb g f
      (λ e. both_ways (within (first_gate_net c + g)) out (ap (λ (n : ℕ). within (first_gate_net c + n)) e
      ∙ h (let l : first_gate_net c + f < net_count c = omega arith in l))))

  data_outside : (site : Site) → (first_changed c site < net_count c → within (first_changed c site) ≡ true)
      → (j : ℕ) → j < length c.dffs → within (c.inputs + j) ≡ false → is_data_pin site j ≡ false
  data_outside (Stem y) h j inside out = refl
  data_outside (DffPin k) h j inside out = ne_eqb j k
      (λ e. both_ways (within (c.inputs + j)) out (ap (λ (n : ℕ). within (c.inputs + n)) e
      ∙ h (let l : c.inputs + k < net_count c = omega arith in l)))
  data_outside (GatePin g i) h j inside out = refl

module _ (c : Netlist) (circuit : IsCircuit c) (fault : Fault) (within : ℕ → Bool) (closed : Encloses c fault within)
  where
    pins_outside : (g : ℕ) (e f : ℕ → Tern) (i : ℕ) (args : List NetId)
        → ((k : ℕ) → is_pin fault.site g k ≡ false)
        → ((j : ℕ) → j < length args → e (get_or args j no_net).0 ≡ f (get_or args j no_net).0)
        → pin_values (tern_rules None) g e i args ≡ pin_values (tern_rules (Some fault)) g f i args
    pins_outside g e f i [] free h = refl
    pins_outside g e f i (a ∷ args) free h =
        let here : (tern_rules None).pin g i (e a.0) ≡ (tern_rules (Some fault)).pin g i (f a.0) =
        never_stuck _ _ (e a.0) ∙ (h 0 (omega arith) ∙
        sym (not_stuck _ fault (λ site. is_pin site g i) (f a.0) (free i))) in
        let rest = pins_outside g e f (i + 1) args free (λ j l. h (suc j) (omega arith)) in
        (λ k. here k ∷ rest k)

    args_outside : (x j : ℕ) → x < net_count c → first_gate_net c ≤ x → within x ≡ false
        → j < length (gate_at c (x - first_gate_net c)).args
        → (arg_at c (x - first_gate_net c) j < net_count c) × (within (arg_at c (x - first_gate_net c) j) ≡ false)
    args_outside x j inside at out l =
        let is : first_gate_net c + (x - first_gate_net c) ≡ x = omega arith in
        let gate : x - first_gate_net c < length c.gates = omega arith in (
          circuit.known (x - first_gate_net c) j gate l,
          false_from_ne_true _
              (λ h. both_ways (within x) out (ap within (sym is) ∙ closed.gates (x - first_gate_net c) j gate l h)),
        )

    module _ (vector good faulty : List Tern)
        (agree : (j : ℕ) → j < length c.dffs → within (c.inputs + j) ≡ false → get_or good j Unk ≡ get_or faulty j Unk)
      where
        driver_outside : (e f : ℕ → Tern) → ((y : ℕ) → y < net_count c → within y ≡ false → e y ≡ f y) → (x : ℕ)
            → x < net_count c → within x ≡ false
            → driver_value c (tern_rules None) vector good e x ≡ driver_value c (tern_rules (Some fault)) vector faulty f x
        unfolding gate_output
        driver_outside e f same x inside out =
            elim (le_or_lt (first_gate_net c) x) [
              | inl at ↦
                  let is : first_gate_net c + (x - first_gate_net c) ≡ x = omega arith in
                  driven_gate c (tern_rules None) vector good e x at ∙
                  (ap ((tern_rules None).gate (gate_at c (x - first_gate_net c)).kind)
                  (pins_outside (x - first_gate_net c) e f 0 (gate_at c (x - first_gate_net c)).args
                  (λ k. pin_outside c within fault.site closed.first (x - first_gate_net c) k (omega arith) (ap within is ∙ out))
                  (λ j l. let a = args_outside x j inside at out l in same _ a.0 a.1))
                  ∙ sym (driven_gate c (tern_rules (Some fault)) vector faulty f x at))
              | inr low ↦ elim (le_or_lt c.inputs x) [
                | inl at ↦
                    let is : c.inputs + (x - c.inputs) ≡ x = omega arith in
                    driven_latch c (tern_rules None) vector good e x at low ∙
                    (agree (x - c.inputs) (omega arith) (ap within is ∙ out)
                    ∙ sym (driven_latch c (tern_rules (Some fault)) vector faulty f x at low))
                | inr l ↦ driven_input c (tern_rules None) vector good e x l
                    ∙ sym (driven_input c (tern_rules (Some fault)) vector faulty f x l)
              ]
            ]

        over_outside : (e f : ℕ → Tern) → ((y : ℕ) → y < net_count c → within y ≡ false → e y ≡ f y) → (x : ℕ)
            → x < net_count c → within x ≡ false
            → net_value_over c (tern_rules None) vector good e x
            ≡ net_value_over c (tern_rules (Some fault)) vector faulty f x
        unfolding net_value_over
        over_outside e f same x inside out = never_stuck _ _ _ ∙ (driver_outside e f same x inside out
            ∙ sym (not_stuck _ fault (λ site. is_stem site x) _ (stem_outside c within fault.site closed.first x inside out)))

        within_outside : (k x : ℕ) → x < net_count c → within x ≡ false
            → net_value_within k c (tern_rules None) vector good x
            ≡ net_value_within k c (tern_rules (Some fault)) vector faulty x
        unfolding net_value_within
        within_outside zero x inside out = refl
        within_outside (suc k) x inside out = over_outside (net_value_within k c (tern_rules None) vector good)
            (net_value_within k c (tern_rules (Some fault)) vector faulty)
            (λ y here free. within_outside k y here free) x inside out

        -- outside a set that encloses the fault a net has the same value in both machines
        pub net_outside : (x : ℕ) → x < net_count c → within x ≡ false
            → net_value c (tern_rules None) vector good x ≡ net_value c (tern_rules (Some fault)) vector faulty x
        unfolding net_value
        net_outside x inside out = within_outside (suc (length c.gates)) x inside out

        -- what drives a net outside
        pub driven_outside : (x : ℕ) → x < net_count c → within x ≡ false
            → driver_value c (tern_rules None) vector good (net_value c (tern_rules None) vector good) x
            ≡ driver_value c (tern_rules (Some fault)) vector faulty (net_value c (tern_rules (Some fault)) vector faulty) x
        driven_outside x inside out = driver_outside (net_value c (tern_rules None) vector good)
            (net_value c (tern_rules (Some fault)) vector faulty) net_outside x inside out

        -- the next state agrees outside too
        pub next_outside : (j : ℕ) → j < length c.dffs → within (c.inputs + j) ≡ false
            → get_or (next_state c (tern_rules None) vector good) j Unk
            ≡ get_or (next_state c (tern_rules (Some fault)) vector faulty) j Unk
        unfolding next_state
        next_outside j inside out =
            let free : within (get_or c.dffs j no_net).0 ≡ false = false_from_ne_true _
            (λ h. both_ways (within (c.inputs + j)) out (closed.dffs j inside h)) in
            taken_get (tern_rules None) (net_value c (tern_rules None) vector good) 0 c.dffs j Unk inside
            ∙ (never_stuck _ _ _
            ∙ (net_outside (get_or c.dffs j no_net).0 (circuit.data_known j inside) free
            ∙ (sym (not_stuck _ fault (λ site. is_data_pin site (0 + j)) _
            (data_outside c within fault.site closed.first (0 + j) (omega arith) (let s : 0 + j ≡ j = omega arith in ap (λ (n : ℕ). within (c.inputs + n)) s ∙ out)))
            ∙ sym (taken_get (tern_rules (Some fault)) (net_value c (tern_rules (Some fault)) vector faulty) 0 c.dffs j Unk
            inside))))
