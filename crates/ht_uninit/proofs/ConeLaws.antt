-- Outside a forward-closed set with the root of a fault's cone, the two machines have the same values.
use Rattle.std.specs.Prelude.{eqb}
use Rattle.std.proofs.Common.{◌≡◌, ◌<◌, ◌≤◌, ◌+◌, ◌-◌, ℕ, suc, zero, List, [], ◌∷◌, Bool, true, false, cond, Some, None, length, get_or, refl, sym, ◌∙◌, ap, inl, inr, arith}
use Rattle.std.proofs.lemmas.Bool.{and_parts, false≢true, false_from_ne_true}
use Rattle.std.proofs.lemmas.Bool.Decides.{nat_tests}
use Rattle.std.proofs.lemmas.List.{get_or_past}
use Rattle.ht_tern.specs.declared.tern.Tern.{Tern}
use Rattle.ht_tern.specs.declared.tern.Tern.TheVariants.{Unk}
use Rattle.ht_tern.specs.Gate.{gate_value, tern_of}
use Rattle.ht_net.specs.declared.fault.Fault.{Fault}
use Rattle.ht_net.specs.declared.fault.Site.{Site}
use Rattle.ht_net.specs.declared.fault.Site.TheVariants.{DffPin, GatePin, Stem}
use Rattle.ht_net.specs.declared.net.NetId.{NetId}
use Rattle.ht_net.specs.Detect.Detection.{terns_of, unknown_state}
use Rattle.ht_net.specs.Frames.Faults.{forced, is_data_pin, is_pin, is_stem, tern_rules}
use Rattle.ht_net.specs.Frames.Frame.{driver_value, gate_output, net_value, net_value_over, net_value_within, next_state, pin_values}
use Rattle.ht_net.specs.Circuit.Netlist.{Gate, Netlist, arg_at, first_gate_net, gate_at, no_gate, no_net}
use Rattle.ht_net.proofs.FrameLaws.{driven_gate, driven_input, driven_latch, le_or_lt}
use Rattle.ht_records.proofs.RunStateLaws.{nth, state_in}
use Rattle.ht_records.proofs.ShownLaws.{next_at}
use Rattle.ht_faults.specs.Sites.{data_net}
use Rattle.ht_uninit.specs.Cones.{IsForwardClosed, cone_root}

forced_off : (fault : Fault) (here : Site → Bool) (v : Tern) → here fault.site ≡ false
    → forced (λ bit v. tern_of bit) None here v ≡ forced (λ bit v. tern_of bit) (Some fault) here v
unfolding forced
forced_off fault here v off = sym (ap (λ (b : Bool). cond b (tern_of fault.value) v) off)

-- where the lines of a fault are
stem_here : (c : Netlist) (site : Site) (x : ℕ) → is_stem site x ≡ true → cone_root c site ≡ x
stem_here c (Stem y) x h = grind (arith, nat_tests)
stem_here c (DffPin k) x h = cc
stem_here c (GatePin g k) x h = cc

pin_here : (c : Netlist) (site : Site) (g i : ℕ) → is_pin site g i ≡ true → cone_root c site ≡ first_gate_net c + g
pin_here c (Stem y) g i h = cc
pin_here c (DffPin k) g i h = cc
pin_here c (GatePin n k) g i h =
    let e : eqb g n ≡ true = (and_parts (eqb g n) (eqb i k) h).0 in
    let same : g ≡ n = grind (arith, nat_tests) in
    omega (arith, same)

data_here : (c : Netlist) (site : Site) (j : ℕ) → is_data_pin site j ≡ true → cone_root c site ≡ c.inputs + j
data_here c (Stem y) j h = cc
data_here c (DffPin k) j h =
    let same : j ≡ k = grind (arith, nat_tests) in
    omega (arith, same)
data_here c (GatePin g k) j h = cc

-- two machines whose pins have the same values
pins_alike : (fault : Fault) (g : ℕ) (e f : ℕ → Tern) (i : ℕ) (args : List NetId)
    → ((k : ℕ) → is_pin fault.site g k ≡ false)
    → ((k : ℕ) → k < length args → e (get_or args k no_net).0 ≡ f (get_or args k no_net).0)
    → pin_values (tern_rules None) g e i args ≡ pin_values (tern_rules (Some fault)) g f i args
pins_alike fault g e f i [] off h = refl
pins_alike fault g e f i (a ∷ args) off h =
    let here : (tern_rules None).pin g i (e a.0) ≡ (tern_rules (Some fault)).pin g i (f a.0) =
    ap ((tern_rules None).pin g i) (h 0 (omega arith))
    ∙ forced_off fault (λ site. is_pin site g i) (f a.0) (off i) in
    let rest = pins_alike fault g e f (i + 1) args off (λ k l. h (suc k) (omega (arith, l))) in
    (λ k. here k ∷ rest k)

module _ (c : Netlist) (fault : Fault) (s : ℕ → Bool) (closed : IsForwardClosed c s)
    (root : s (cone_root c fault.site) ≡ true) where
  outside : (b : Bool) (x : ℕ) → s x ≡ false → (b ≡ true → cone_root c fault.site ≡ x) → b ≡ false
  outside b x out at =
      false_from_ne_true b (λ is. false≢true (sym out ∙ (ap s (sym (at is)) ∙ root)))

  -- two states of the good and of the faulty machine that are equal outside the set
  abbrev pub AreAlike : List Tern → List Tern → Type 0
  AreAlike good faulty =
      (j : ℕ) → j < length c.dffs → s (c.inputs + j) ≡ false → get_or good j Unk ≡ get_or faulty j Unk

  module _ (vector good faulty : List Tern) (alike : AreAlike good faulty) where
    gate_alike : (e f : ℕ → Tern) (g : ℕ) → s (first_gate_net c + g) ≡ false
        → ((y : ℕ) → s y ≡ false → e y ≡ f y)
        → gate_output c (tern_rules None) e g ≡ gate_output c (tern_rules (Some fault)) f g
    unfolding gate_output
    gate_alike e f g out same =
        ap (gate_value (gate_at c g).kind)
        (pins_alike fault g e f 0 (gate_at c g).args
        (λ k. outside (is_pin fault.site g k) (first_gate_net c + g) out (pin_here c fault.site g k))
        (λ k l. same (arg_at c g k) (argument_out k l)))
      where
        argument_out : (k : ℕ) → k < length (gate_at c g).args → s (arg_at c g k) ≡ false
        argument_out k l = false_from_ne_true (s (arg_at c g k)) (λ is. elim (le_or_lt (length c.gates) g) [
          | inl beyond ↦ absurd (no_argument k l beyond)
          | inr inside ↦ false≢true (sym out ∙ closed.gates g k inside l is)
        ])
          where
            no_argument : (k : ℕ) → k < length (gate_at c g).args → length c.gates ≤ g → ⊥
            no_argument k l beyond =
                let none : length (gate_at c g).args ≡ 0 =
                ap (λ (n : Gate). length n.args) (get_or_past c.gates g no_gate beyond) in
                omega (arith, l, none)

    value_alike : (e f : ℕ → Tern) (x : ℕ) → s x ≡ false → ((y : ℕ) → s y ≡ false → e y ≡ f y)
        → net_value_over c (tern_rules None) vector good e x
        ≡ net_value_over c (tern_rules (Some fault)) vector faulty f x
    unfolding net_value_over
    value_alike e f x out same =
        let r = tern_rules None in
        let t = tern_rules (Some fault) in
        let driven : driver_value c r vector good e x ≡ driver_value c t vector faulty f x = elim (le_or_lt (first_gate_net c) x) [
          | inl at ↦
              let is : first_gate_net c + (x - first_gate_net c) ≡ x = omega arith in
              driven_gate c r vector good e x at
              ∙ (gate_alike e f (x - first_gate_net c) (ap s is ∙ out) same ∙ sym (driven_gate c t vector faulty f x at))
          | inr low ↦ elim (le_or_lt c.inputs x) [
            | inl at ↦
                let is : c.inputs + (x - c.inputs) ≡ x = omega arith in
                driven_latch c r vector good e x at low
                ∙ (alike (x - c.inputs) (omega arith) (ap s is ∙ out) ∙ sym (driven_latch c t vector faulty f x at low))
            | inr l ↦ driven_input c r vector good e x l ∙ sym (driven_input c t vector faulty f x l)
          ]
        ] in
        ap (r.stem x) driven
        ∙ forced_off fault (λ site. is_stem site x) _ (outside (is_stem fault.site x) x out (stem_here c fault.site x))

    within_alike : (k x : ℕ) → s x ≡ false → net_value_within k c (tern_rules None) vector good x
        ≡ net_value_within k c (tern_rules (Some fault)) vector faulty x
    unfolding net_value_within
    within_alike zero x out = refl
    within_alike (suc k) x out =
        value_alike (net_value_within k c (tern_rules None) vector good)
        (net_value_within k c (tern_rules (Some fault)) vector faulty) x out (λ y o. within_alike k y o)

    -- a net outside the set has the same value in both machines, if their states are alike
    pub net_alike : (x : ℕ) → s x ≡ false → net_value c (tern_rules None) vector good x
        ≡ net_value c (tern_rules (Some fault)) vector faulty x
    unfolding net_value
    net_alike x out = within_alike (suc (length c.gates)) x out

    -- states that are alike have next states that are
    pub next_alike : AreAlike (next_state c (tern_rules None) vector good)
        (next_state c (tern_rules (Some fault)) vector faulty)
    next_alike j l out =
        let x = data_net c j in
        let data_out : s x ≡ false = false_from_ne_true (s x) (λ is. false≢true (sym out ∙ closed.dffs j l is)) in
        next_at c (tern_rules None) vector good j Unk l
        ∙ (ap ((tern_rules None).data_pin j) (net_alike x data_out)
        ∙ (forced_off fault (λ site. is_data_pin site j) _
        (outside (is_data_pin fault.site j) (c.inputs + j) out (data_here c fault.site j))
        ∙ sym (next_at c (tern_rules (Some fault)) vector faulty j Unk l)))

  -- before each frame of a list
  pub states_alike : (list : List (List Bool)) (f : ℕ)
      → AreAlike (state_in c None (unknown_state c) list f) (state_in c (Some fault) (unknown_state c) list f)
  states_alike list zero j l out = refl
  states_alike list (suc f) j l out =
      next_alike (terns_of (nth list f)) (state_in c None (unknown_state c) list f)
      (state_in c (Some fault) (unknown_state c) list f) (states_alike list f) j l out
