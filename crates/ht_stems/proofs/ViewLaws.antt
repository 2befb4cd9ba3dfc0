-- What the fields of arrivals tell of nets and faults.
use Rattle.std.proofs.Common.{◌≡◌, ◌<◌, ◌+◌, ◌∙◌, ◌↔◌, ℕ, List, Bool, Some, length, get_or, sym, ap, subst, arith}
use Rattle.std.specs.Prelude.{IsTrue}
use Rattle.ht_tern.specs.declared.tern.Tern.{Tern}
use Rattle.ht_tern.specs.declared.tern.Tern.TheVariants.{Unk}
use Rattle.ht_tern.specs.Gate.{tern_of}
use Rattle.ht_net.specs.declared.net.NetId.{NetId}
use Rattle.ht_net.specs.declared.fault.Site.{Site}
use Rattle.ht_net.specs.declared.fault.Site.TheVariants.{GatePin, Stem}
use Rattle.ht_net.specs.declared.fault.Fault.{Fault}
use Rattle.ht_net.specs.Circuit.Netlist.{first_gate_net, net_count, max_arguments, IsCircuit}
use Rattle.ht_net.specs.Frames.Frame.{gate_output}
use Rattle.ht_net.specs.Frames.Faults.{tern_rules}
use Rattle.ht_frame.specs.Values.{env_of}
use Rattle.ht_stems.specs.declared.arrival.Arrival.{Arrival}
use Rattle.ht_stems.specs.declared.arrivals.Arrivals.TheInside.{Inside}
use Rattle.ht_stems.specs.Arrivals.{Arrives, HasLine, IsStuckAlready, SiteArrives, net_of_line}
use Rattle.ht_stems.specs.declared.net_ends.NetEnds.{NetEnds}
use Rattle.ht_stems.specs.LoadsOfNets.{AreLoads}
use Rattle.ht_stems.specs.NetEnds.{AreTableEnds, end_at, no_ends}
use Rattle.ht_stems.specs.ArrivalsView.{ArrivalsView, good_of_net}
use Rattle.ht_stems.specs.ArrivalsOf.{AreArrivalFields, arrivals_of}

module _ (a : Inside) (view : ArrivalsView) (is : arrivals_of a ≡ view) (fields : AreArrivalFields a) where
  -- the circuit of the arrivals is well formed
  pub circuit_told : IsCircuit view.circuit
  circuit_told =
      let P : ArrivalsView → Type 0 = λ w. IsCircuit w.circuit in
      subst P is fields.circuit

  -- The effect of a net ends where its row says.
  pub net_told : (x : ℕ) (v : Tern) (end : Arrival) → x < net_count view.circuit
      → end ≡ end_at (get_or a.ends.items x no_ends) v → Arrives view.circuit (good_of_net view) x v end
  net_told x v end known ends =
      let P : ArrivalsView → Type 0 = λ w. x < net_count w.circuit → Arrives w.circuit (good_of_net w) x v end in
      let Q : Arrival → Type 0 = Arrives a.circuit.now (λ y. get_or a.values.items y Unk) x v in
      subst P is (λ inside. subst Q (sym ends) (fields.ends x inside v)) known

  -- So does that of a stem fault.
  pub stem_told : (fault : Fault) (x : NetId) (v : Tern) (end : Arrival) → fault.site ≡ Stem x
      → HasLine view.circuit fault.site → v ≡ tern_of fault.value
      → end ≡ end_at (get_or a.ends.items x.0 no_ends) v
      → SiteArrives view.circuit (good_of_net view) fault.site fault.value end
  stem_told fault x v end site line value ends =
      let P : Site → Type 0 = λ s. SiteArrives view.circuit (good_of_net view) s fault.value end in
      let Q : Tern → Type 0 = λ w. Arrives view.circuit (good_of_net view) x.0 w end in
      subst P (sym site) (subst Q value (net_told x.0 v end (subst (HasLine view.circuit) site line) ends))

  -- That of a pin fault ends where the row of its gate's net says.
  pub pin_told : (fault : Fault) (g i : ℕ) (output : Tern) (end : Arrival) → fault.site ≡ GatePin g i
      → HasLine view.circuit fault.site
      → output ≡ gate_output a.circuit.now (tern_rules (Some fault)) (env_of Unk a.values.items) g
      → end ≡ end_at (get_or a.ends.items (first_gate_net a.circuit.now + g) no_ends) output
      → SiteArrives view.circuit (good_of_net view) fault.site fault.value end
  pin_told fault g i output end site line gives ends =
      let P : Site → Type 0 = λ s. SiteArrives view.circuit (good_of_net view) s fault.value end in
      let there : HasLine view.circuit (GatePin g i) = subst (HasLine view.circuit) site line in
      let known : g < length view.circuit.gates = there.0 in
      let first : first_gate_net a.circuit.now + g ≡ first_gate_net view.circuit + g =
      ap (λ (w : ArrivalsView). first_gate_net w.circuit + g) is in
      let at : end ≡ end_at (get_or a.ends.items (first_gate_net view.circuit + g) no_ends) output =
      ends ∙ ap (λ (n : ℕ). end_at (get_or a.ends.items n no_ends) output) first in
      let same : output ≡ gate_output view.circuit
      (tern_rules (Some (record { site = GatePin g i; value = fault.value }))) (good_of_net view) g =
      gives
      ∙ (ap (λ (w : ArrivalsView). gate_output w.circuit (tern_rules (Some fault)) (good_of_net w) g) is
      ∙ ap (λ (s : Site). gate_output view.circuit
      (tern_rules (Some (record { site = s; value = fault.value }))) (good_of_net view) g) site) in
      let Q : Tern → Type 0 = λ w. Arrives view.circuit (good_of_net view) (first_gate_net view.circuit + g) w end in
      subst P (sym site) (subst Q same (net_told (first_gate_net view.circuit + g) output end (omega arith) at))

  -- A test of the value of a line's net tells whether the line is stuck already.
  pub stuck_told : (fault : Fault) (r : Bool) (values : List Tern) (x : NetId) (v : Tern) → values ≡ a.values.items
      → x ≡ net_of_line a.circuit.now fault.site → v ≡ tern_of fault.value
      → (IsTrue r ↔ (env_of Unk values x.0 ≡ v))
      → IsTrue r ↔ IsStuckAlready view.circuit (good_of_net view) fault
  stuck_told fault r values x v whole line value told =
      let at : env_of Unk values x.0 ≡ good_of_net view (net_of_line view.circuit fault.site).0 =
      ap (λ (l : List Tern). get_or l x.0 Unk) whole
      ∙ (ap (λ (n : NetId). get_or a.values.items n.0 Unk) line
      ∙ ap (λ (w : ArrivalsView). good_of_net w (net_of_line w.circuit fault.site).0) is) in
      (λ yes. sym at ∙ (told.0 yes ∙ value), λ e. told.1 (at ∙ (e ∙ sym value)))

-- The fields after a pass.
pub filled : (a : Inside) (old vs : List Tern) (es : List NetEnds) (ps : List Tern)
    → IsCircuit a.circuit.now → AreLoads a.circuit.now a.loads.items → vs ≡ old
    → a.values.items ≡ vs → length vs ≡ net_count a.circuit.now
    → a.ends.items ≡ es → length es ≡ net_count a.circuit.now
    → a.pins.items ≡ ps → length ps ≡ max_arguments
    → AreTableEnds a.circuit.now (env_of Unk old) es → AreArrivalFields a
filled a old vs es ps circuit loads same values many ends each pins room are =
    let P : List Tern → Type 0 = λ l. AreTableEnds a.circuit.now (env_of Unk l) es in
    let Q : List NetEnds → Type 0 = λ l. AreTableEnds a.circuit.now (env_of Unk a.values.items) l in
    record {
      circuit = circuit;
      loads = loads;
      value_count = ap (λ (l : List Tern). length l) values ∙ many;
      end_count = ap (λ (l : List NetEnds). length l) ends ∙ each;
      ends = subst Q (sym ends) (subst P (sym (values ∙ same)) are);
      room = ap (λ (l : List Tern). length l) pins ∙ room;
    }
