-- What a frame shows of a fault, from latches that are the good ones.
use Rattle.std.proofs.Common.{◌≡◌, ◌≢◌, ◌<◌, ◌≤◌, ◌+◌, ◌-◌, ◌∙◌, ◌&&◌, ℕ, suc, List, [], ◌∷◌, Bool, true, false, Some, None, cond, length, get_or, refl, sym, ap, arith, inl, inr, subst}
use Rattle.std.specs.Prelude.{eqb}
use Rattle.std.proofs.lemmas.Bool.{ne_eqb}
use Rattle.std.proofs.lemmas.Bool.Decides.{eqb_tells}
use Rattle.ht_tern.specs.declared.tern.Tern.{Tern}
use Rattle.ht_tern.specs.Gate.{tern_of}
use Rattle.ht_net.specs.declared.net.NetId.{NetId}
use Rattle.ht_net.specs.declared.fault.Site.{Site}
use Rattle.ht_net.specs.declared.fault.Site.TheVariants.{Stem, DffPin, GatePin}
use Rattle.ht_net.specs.declared.fault.Fault.{Fault}
use Rattle.ht_net.specs.Circuit.Netlist.{Netlist, first_gate_net, net_count, gate_at, arg_at, no_net, IsCircuit}
use Rattle.ht_net.specs.Frames.Frame.{Rules, pin_values, gate_output, driver_value, net_value_over, net_value, frame_outputs, next_state}
use Rattle.ht_net.specs.Frames.Faults.{forced, tern_rules}
use Rattle.ht_net.proofs.DepthLaws.{circuit_depth}
use Rattle.ht_net.proofs.FrameLaws.{le_or_lt, driven_input, driven_latch, driven_gate, gate_same}
use Rattle.ht_stems.specs.declared.arrival.Arrival.{Arrival}
use Rattle.ht_stems.specs.declared.arrival.Arrival.TheVariants.{AtLatch}
use Rattle.ht_stems.specs.ForcedNets.{net_forced}
use Rattle.ht_stems.specs.Arrivals.{FaultArrives, HasLine, IsStuckAlready, SiteArrives, net_of_line}
use Rattle.ht_stems.specs.ArrivedFrames.{AreGoodValues, ShowSame, ShowsArrival}
use Rattle.ht_stems.proofs.ForcedLaws.{is_frame, frame_over, over_here, over_other, upstream}
use Rattle.ht_stems.proofs.FrameShows.{next_but, show_same, outputs_same}
use Rattle.ht_stems.proofs.ArrivalLaws.{arrival_shows, own_shows, good_stem, good_data_pin}

-- a fault at a stem, a pin of a gate or a data pin
abbrev stem_fault : NetId → Bool → Fault
stem_fault x bit = record { site = Stem x; value = bit }

abbrev pin_fault : ℕ → ℕ → Bool → Fault
pin_fault g i bit = record { site = GatePin g i; value = bit }

abbrev data_fault : ℕ → Bool → Fault
data_fault j bit = record { site = DffPin j; value = bit }

-- the rules of a stem fault are those of its net forced
stem_rules : (x : NetId) (bit : Bool) → tern_rules (Some (stem_fault x bit))
    ≡ net_forced (tern_rules None) x.0 (tern_of bit)
unfolding forced
stem_rules x bit = refl

-- a frame with a stuck stem shows and takes the same as one with the stem's net forced to the stuck value
pub stem_shows : (c : Netlist) (vector latches : List Tern) (x : NetId) (bit : Bool)
    → ShowSame c (tern_rules (Some (stem_fault x bit))) (net_forced (tern_rules None) x.0 (tern_of bit)) vector latches
stem_shows c vector latches x bit = record {
  outputs = ap (λ (r : Rules Tern). frame_outputs c r vector latches) (stem_rules x bit);
  next = ap (λ (r : Rules Tern). next_state c r vector latches) (stem_rules x bit);
}

kept : (b : Bool) (v u : Tern) → b ≡ false → cond b v u ≡ u
kept true v u h = cc
kept false v u h = refl

-- a pin fault leaves the pins of other gates
other_pins : (g i : ℕ) (bit : Bool) (h : ℕ) (e : ℕ → Tern) (k : ℕ) (args : List NetId) → h ≢ g
    → pin_values (tern_rules (Some (pin_fault g i bit))) h e k args ≡ pin_values (tern_rules None) h e k args
unfolding forced
other_pins g i bit h e k [] ne = refl
other_pins g i bit h e k (a ∷ args) ne =
    let here : cond (eqb h g && eqb k i) (tern_of bit) (e a.0) ≡ e a.0 =
    kept (eqb h g && eqb k i) (tern_of bit) (e a.0) (ap (λ b. b && eqb k i) (ne_eqb h g ne)) in
    λ t. here t ∷ other_pins g i bit h e (k + 1) args ne t

other_gate : (c : Netlist) (g i : ℕ) (bit : Bool) (h : ℕ) (e : ℕ → Tern) → h ≢ g
    → gate_output c (tern_rules (Some (pin_fault g i bit))) e h ≡ gate_output c (tern_rules None) e h
unfolding gate_output
other_gate c g i bit h e ne = ap ((tern_rules None).gate (gate_at c h).kind)
    (other_pins g i bit h e 0 (gate_at c h).args ne)

-- and of the same gate, where the pin's net has the value already
same_pins : (g i : ℕ) (bit : Bool) (e : ℕ → Tern) (k : ℕ) (args : List NetId)
    → ((j : ℕ) → j < length args → k + j ≡ i → e (get_or args j no_net).0 ≡ tern_of bit)
    → pin_values (tern_rules (Some (pin_fault g i bit))) g e k args ≡ pin_values (tern_rules None) g e k args
unfolding forced
same_pins g i bit e k [] has = refl
same_pins g i bit e k (a ∷ args) has =
    let here : cond (eqb g g && eqb k i) (tern_of bit) (e a.0) ≡ e a.0 = elim (eqb_tells k i) [
      | inl p ↦ at_pin (eqb g g && eqb k i) (has 0 (omega arith) (omega (arith, p.1)))
      | inr p ↦ kept (eqb g g && eqb k i) (tern_of bit) (e a.0) (last_false (eqb g g) (eqb k i) p.0)
    ] in
    λ t. here t ∷ same_pins g i bit e (k + 1) args (λ j l is. has (suc j) (omega arith) (omega (arith, is))) t
  where
    at_pin : (b : Bool) → e a.0 ≡ tern_of bit → cond b (tern_of bit) (e a.0) ≡ e a.0
    at_pin true h = sym h
    at_pin false h = refl

    last_false : (b d : Bool) → d ≡ false → (b && d) ≡ false
    last_false true d h = h
    last_false false d h = refl

same_gate : (c : Netlist) (g i : ℕ) (bit : Bool) (e : ℕ → Tern)
    → ((j : ℕ) → j < length (gate_at c g).args → 0 + j ≡ i → e (arg_at c g j) ≡ tern_of bit)
    → gate_output c (tern_rules (Some (pin_fault g i bit))) e g ≡ gate_output c (tern_rules None) e g
unfolding gate_output
same_gate c g i bit e has = ap ((tern_rules None).gate (gate_at c g).kind)
    (same_pins g i bit e 0 (gate_at c g).args has)

-- a data pin fault leaves all gates
data_pins_left : (j : ℕ) (bit : Bool) (h : ℕ) (e : ℕ → Tern) (k : ℕ) (args : List NetId)
    → pin_values (tern_rules (Some (data_fault j bit))) h e k args ≡ pin_values (tern_rules None) h e k args
unfolding forced
data_pins_left j bit h e k [] = refl
data_pins_left j bit h e k (a ∷ args) = ap (λ (t : List Tern). e a.0 ∷ t) (data_pins_left j bit h e (k + 1) args)

data_gate : (c : Netlist) (j : ℕ) (bit : Bool) (h : ℕ) (e : ℕ → Tern)
    → gate_output c (tern_rules (Some (data_fault j bit))) e h ≡ gate_output c (tern_rules None) e h
unfolding gate_output
data_gate c j bit h e = ap ((tern_rules None).gate (gate_at c h).kind)
    (data_pins_left j bit h e 0 (gate_at c h).args)

-- what the net of a gate has
over_gate : (c : Netlist) (r : Rules Tern) (vector latches : List Tern) (e : ℕ → Tern) (y : ℕ) → first_gate_net c ≤ y
    → net_value_over c r vector latches e y ≡ r.stem y (gate_output c r e (y - first_gate_net c))
unfolding net_value_over
over_gate c r vector latches e y at = ap (r.stem y) (driven_gate c r vector latches e y at)

-- A fault that leaves a net's stem and the gate that drives the net leaves the net.
over_alike : (c : Netlist) (fault : Fault) (vector latches : List Tern) (e : ℕ → Tern) (y : ℕ)
    → ((v : Tern) → (tern_rules (Some fault)).stem y v ≡ (tern_rules None).stem y v)
    → (first_gate_net c ≤ y → gate_output c (tern_rules (Some fault)) e (y - first_gate_net c)
    ≡ gate_output c (tern_rules None) e (y - first_gate_net c))
    → net_value_over c (tern_rules (Some fault)) vector latches e y
    ≡ net_value_over c (tern_rules None) vector latches e y
unfolding net_value_over
over_alike c fault vector latches e y stems gates =
    let r : Rules Tern = tern_rules (Some fault) in
    let q : Rules Tern = tern_rules None in
    let drivers : driver_value c (tern_rules (Some fault)) vector latches e y
    ≡ driver_value c (tern_rules None) vector latches e y = elim (le_or_lt (first_gate_net c) y) [
      | inl at ↦ driven_gate c r vector latches e y at ∙ (gates at ∙ sym (driven_gate c q vector latches e y at))
      | inr low ↦ elim (le_or_lt c.inputs y) [
        | inl at ↦ driven_latch c r vector latches e y at low ∙ sym (driven_latch c q vector latches e y at low)
        | inr l ↦ driven_input c r vector latches e y l ∙ sym (driven_input c q vector latches e y l)
      ]
    ] in
    stems (driver_value c r vector latches e y) ∙ ap (q.stem y) drivers

-- what neither a fault at a pin nor one at a data pin changes
pin_stem : (g i : ℕ) (bit : Bool) (x : ℕ) (v : Tern) → (tern_rules (Some (pin_fault g i bit))).stem x v ≡ v
unfolding forced
pin_stem g i bit x v = refl

pin_data : (g i : ℕ) (bit : Bool) (j : ℕ) (v : Tern) → (tern_rules (Some (pin_fault g i bit))).data_pin j v ≡ v
unfolding forced
pin_data g i bit j v = refl

data_stem : (j : ℕ) (bit : Bool) (x : ℕ) (v : Tern) → (tern_rules (Some (data_fault j bit))).stem x v ≡ v
unfolding forced
data_stem j bit x v = refl

module _ (c : Netlist) (circuit : IsCircuit c) (vector latches : List Tern) where
  -- a data pin fault leaves the values of all nets
  data_values_left : (j : ℕ) (bit : Bool) (y : ℕ) → y < net_count c
      → net_value c (tern_rules (Some (data_fault j bit))) vector latches y
      ≡ net_value c (tern_rules None) vector latches y
  data_values_left j bit y inside =
      let E : ℕ → Tern = net_value c (tern_rules None) vector latches in
      sym (is_frame c circuit vector latches (tern_rules (Some (data_fault j bit))) E
      (λ z here. frame_over c circuit vector latches (tern_rules None) z here
      ∙ sym (over_alike c (data_fault j bit) vector latches E z (λ v. data_stem j bit z v ∙ sym (good_stem z v))
      (λ at. data_gate c j bit (z - first_gate_net c) E))) y inside)

  data_pin_other : (j : ℕ) (bit : Bool) (i : ℕ) (w : Tern) → i ≢ j
      → (tern_rules (Some (data_fault j bit))).data_pin i w ≡ (tern_rules None).data_pin i w
  unfolding forced
  data_pin_other j bit i w ne = kept (eqb i j) (tern_of bit) w (ne_eqb i j ne)

  data_pin_here : (j : ℕ) (bit : Bool) (w : Tern)
      → (tern_rules (Some (data_fault j bit))).data_pin j w ≡ tern_of bit
  unfolding forced
  data_pin_here j bit w = elim (eqb_tells j j) [
    | inl p ↦ ap (λ b. cond b (tern_of bit) w) p.0
    | inr p ↦ absurd (p.1 refl)
  ]

  -- a stuck data pin changes only what its flip-flop takes, which is the stuck value
  pub data_shows : (j : ℕ) (bit : Bool) → j < length c.dffs
      → ShowsArrival c (tern_rules (Some (data_fault j bit))) vector latches (AtLatch j (tern_of bit))
  data_shows j bit known = record {
    outputs = outputs_same c (tern_rules (Some (data_fault j bit))) (tern_rules None) vector latches
        (λ o l. data_values_left j bit _ (circuit.outputs_known o l));
    next = next_but c (tern_rules (Some (data_fault j bit))) (tern_rules None) vector latches j (tern_of bit) known
        (sym (data_pin_here j bit _)) (data_pin_other j bit)
        (λ k l ne. data_values_left j bit _ (circuit.data_known k l));
  }

  -- and it leaves the flip-flop too that takes the value already
  data_same_shows : (j : ℕ) (bit : Bool) → j < length c.dffs
      → net_value c (tern_rules None) vector latches (get_or c.dffs j no_net).0 ≡ tern_of bit
      → ShowSame c (tern_rules (Some (data_fault j bit))) (tern_rules None) vector latches
  data_same_shows j bit known has =
      let shows = data_shows j bit known in
      record {
        outputs = shows.outputs;
        next = shows.next ∙ sym (next_but c (tern_rules None) (tern_rules None) vector latches j (tern_of bit) known
            (sym (good_data_pin j _ ∙ has)) (λ i w ne. refl) (λ k l ne. refl));
      }

  module _ (good : ℕ → Tern) (are : AreGoodValues c vector latches good) where
    -- A pin fault is its gate's net forced to what the gate gives.
    pub pin_shows : (g i : ℕ) (bit : Bool) → g < length c.gates
        → ShowSame c (tern_rules (Some (pin_fault g i bit))) (net_forced (tern_rules None) (first_gate_net c + g)
        (gate_output c (tern_rules (Some (pin_fault g i bit))) good g)) vector latches
    pin_shows g i bit known =
        let m : ℕ = first_gate_net c + g in
        let R : Rules Tern = tern_rules (Some (pin_fault g i bit)) in
        let w : Tern = gate_output c (tern_rules (Some (pin_fault g i bit))) good g in
        let G : ℕ → Tern = net_value c (net_forced (tern_rules None) m w) vector latches in
        let d = circuit_depth c circuit in
        let at_gate : first_gate_net c + g - first_gate_net c ≡ g = omega arith in
        let gives : gate_output c R G g ≡ w =
        gate_same c R G good g (λ k l.
        let falls = d.1.falls g k known l in
        upstream c circuit vector latches (tern_rules None) d.0 d.1 m w (suc (d.0 (arg_at c g k))) _
        (circuit.known g k known l) (omega arith) (omega (arith, falls))
        (λ e. let same = ap d.0 e in omega (arith, same, falls))
        ∙ sym (are.value _ (circuit.known g k known l))) in
        let at_net : G (first_gate_net c + g) ≡ net_value_over c R vector latches G (first_gate_net c + g) =
        frame_over c circuit vector latches (net_forced (tern_rules None) m w) m (omega arith)
        ∙ (over_here c (tern_rules None) m w vector latches G m refl
        ∙ (sym gives ∙ (ap (gate_output c R G) (sym at_gate)
        ∙ (sym (pin_stem g i bit m (gate_output c R G (m - first_gate_net c)))
        ∙ sym (over_gate c R vector latches G m (omega arith)))))) in
        show_same c circuit R (net_forced (tern_rules None) m w) vector latches
        (λ k v. pin_data g i bit k v ∙ sym (good_data_pin k v))
        (λ y inside. sym (is_frame c circuit vector latches R G
        (λ z here. elim (eqb_tells z (first_gate_net c + g)) [
          | inl p ↦ ap G p.1 ∙ (at_net ∙ ap (net_value_over c R vector latches G) (sym p.1))
          | inr p ↦
              let ne : z ≢ first_gate_net c + g = p.1 in
              frame_over c circuit vector latches (net_forced (tern_rules None) m w) z here
              ∙ (over_other c (tern_rules None) m w vector latches G z p.1
              ∙ sym (over_alike c (pin_fault g i bit) vector latches G z
              (λ v. pin_stem g i bit z v ∙ sym (good_stem z v))
              (λ at. other_gate c g i bit (z - first_gate_net c) G (λ e. ne (omega (arith, e, at))))))
        ]) y inside))

    -- A line that carries its stuck value already changes nothing.
    stuck_by_site : (site : Site) (bit : Bool) → HasLine c site → good (net_of_line c site).0 ≡ tern_of bit
        → ShowSame c (tern_rules (Some (record { site = site; value = bit }))) (tern_rules None) vector latches
    stuck_by_site (Stem x) bit line has =
        let stem = stem_shows c vector latches x bit in
        let own = own_shows c circuit vector latches x.0 (tern_of bit) (sym has ∙ are.value x.0 line) in
        record { outputs = stem.outputs ∙ own.outputs; next = stem.next ∙ own.next }
    stuck_by_site (DffPin j) bit line has =
        data_same_shows j bit line (sym (are.value _ (circuit.data_known j line)) ∙ has)
    stuck_by_site (GatePin g i) bit line has =
        let m : ℕ = first_gate_net c + g in
        let E : ℕ → Tern = net_value c (tern_rules None) vector latches in
        let at_gate : first_gate_net c + g - first_gate_net c ≡ g = omega arith in
        let pin = pin_shows g i bit line.0 in
        let plain : gate_output c (tern_rules (Some (pin_fault g i bit))) good g
        ≡ gate_output c (tern_rules None) good g =
        same_gate c g i bit good
        (λ j l is. let e : j ≡ i = omega (arith, is) in ap (λ (k : ℕ). good (arg_at c g k)) e ∙ has) in
        let own : gate_output c (tern_rules (Some (pin_fault g i bit))) good g
        ≡ net_value c (tern_rules None) vector latches (first_gate_net c + g) =
        plain ∙ (gate_same c (tern_rules None) good E g (λ k l. are.value _ (circuit.known g k line.0 l))
        ∙ (ap (gate_output c (tern_rules None) E) (sym at_gate)
        ∙ (sym (good_stem m (gate_output c (tern_rules None) E (m - first_gate_net c)))
        ∙ (sym (over_gate c (tern_rules None) vector latches E m (omega arith))
        ∙ sym (frame_over c circuit vector latches (tern_rules None) m (omega (arith, line.0))))))) in
        let same = own_shows c circuit vector latches m _ own in
        record { outputs = pin.outputs ∙ same.outputs; next = pin.next ∙ same.next }

    -- a fault whose line carries the stuck value already changes nothing in a frame
    pub stuck_shows : (fault : Fault) → HasLine c fault.site → IsStuckAlready c good fault
        → ShowSame c (tern_rules (Some fault)) (tern_rules None) vector latches
    stuck_shows fault = stuck_by_site fault.site fault.value

    site_shows : (site : Site) (bit : Bool) (a : Arrival) → HasLine c site → SiteArrives c good site bit a
        → ShowsArrival c (tern_rules (Some (record { site = site; value = bit }))) vector latches a
    site_shows (Stem x) bit a line arrives =
        let stem = stem_shows c vector latches x bit in
        let shows = arrival_shows c circuit vector latches good are x.0 (tern_of bit) a arrives line in
        record { outputs = stem.outputs ∙ shows.outputs; next = stem.next ∙ shows.next }
    site_shows (GatePin g i) bit a line arrives =
        let pin = pin_shows g i bit line.0 in
        let known : g < length c.gates = line.0 in
        let shows = arrival_shows c circuit vector latches good are (first_gate_net c + g) _ a arrives (omega arith) in
        record { outputs = pin.outputs ∙ shows.outputs; next = pin.next ∙ shows.next }
    site_shows (DffPin j) bit a line arrives =
        let P : Arrival → Type 0 = ShowsArrival c (tern_rules (Some (data_fault j bit))) vector latches in
        subst P (sym arrives) (data_shows j bit line)

    -- a frame with a fault shows and takes what is left where the fault's effect ends
    pub fault_shows : (fault : Fault) (a : Arrival) → HasLine c fault.site → FaultArrives c good fault a
        → ShowsArrival c (tern_rules (Some fault)) vector latches a
    fault_shows fault a line (inl p) =
        let same = stuck_shows fault line p.0 in
        let P : Arrival → Type 0 = ShowsArrival c (tern_rules (Some fault)) vector latches in
        subst P (sym p.1) (record { outputs = same.outputs; next = same.next })
    fault_shows fault a line (inr p) = site_shows fault.site fault.value a line p.1

    -- two faults whose effects end in the same way show the same in a frame, and flip-flops take the same
    pub together_show : (fault other : Fault) (a : Arrival) → HasLine c fault.site → HasLine c other.site
        → FaultArrives c good fault a → FaultArrives c good other a
        → ShowSame c (tern_rules (Some fault)) (tern_rules (Some other)) vector latches
    together_show fault other a line line' arrives arrives' =
        let one = fault_shows fault a line arrives in
        let two = fault_shows other a line' arrives' in
        record { outputs = one.outputs ∙ sym two.outputs; next = one.next ∙ sym two.next }
