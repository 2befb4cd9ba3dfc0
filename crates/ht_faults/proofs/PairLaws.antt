-- The two faults of an equivalent pair give equal outputs and equal next states in a frame.
use Rattle.std.proofs.Common.{◌≡◌, ◌≢◌, ◌<◌, ◌≤◌, ◌+◌, ◌-◌, ℕ, List, Bool, cond, length, get_or, Some, refl, sym, ◌∙◌, ap, arith, inl, inr}
use Rattle.std.specs.Prelude.{eqb}
use Rattle.std.proofs.lemmas.Bool.{eq-eqb, ne_eqb}
use Rattle.std.proofs.lemmas.Bool.Decides.{eqb_tells}
use Rattle.ht_tern.specs.declared.gate.Kind.{Kind}
use Rattle.ht_net.specs.declared.fault.Site.TheVariants.{GatePin}
use Rattle.ht_net.specs.Circuit.Netlist.{Netlist, first_gate_net, net_count, gate_at, arg_at, IsCircuit}
use Rattle.ht_net.specs.Frames.Frame.{Rules, pin_values, net_value_over, net_value, frame_outputs, next_state}
use Rattle.ht_net.specs.Frames.Faults.{forced}
use Rattle.ht_net.proofs.Depth.{IsDepth}
use Rattle.ht_net.proofs.FrameLaws.{IsSettled, frame_settled, settled_is_frame, value_same, pins_length, pins_get}
use Rattle.ht_net.proofs.ValueLaws.{seen_same, taken_same}
use Rattle.ht_faults.specs.Table.{equivalent_output}
use Rattle.ht_faults.proofs.LoadLaws.{IsReadBy}
use Rattle.ht_faults.proofs.LineLaws.{stuck, good, stem_site, stem_stuck, stem_free, good_gate, pin_stuck, pin_gate, pin_free}

-- A domain where the table of equivalent faults holds of every gate.
pub record HasTable {V : Type 0} (blank : V) (gate : Kind → List V → V) (at : Bool → V) : Type 0 where
  pub decides : (kind : Kind) (xs : List V) (i : ℕ) (v w : Bool) → i < length xs → get_or xs i blank ≡ at v
      → equivalent_output kind (length xs) v ≡ Some w → gate kind xs ≡ at w

-- In every frame two machines show equal outputs and take equal next states.
pub record FrameAlike {V : Type 0} (c : Netlist) (r s : Rules V) : Type 0 where
  pub outputs : (vector latches : List V) → frame_outputs c r vector latches ≡ frame_outputs c s vector latches
  pub next : (vector latches : List V) → next_state c r vector latches ≡ next_state c s vector latches

-- a list of values with another at one place
abbrev but : {V : Type 0} → ℕ → V → (ℕ → V) → ℕ → V
but a v e x = cond (eqb x a) v (e x)

but_other : {V : Type 0} → (a : ℕ) (v : V) (e : ℕ → V) (x : ℕ) → x ≢ a → but a v e x ≡ e x
but_other a v e x ne = rw (ne_eqb x a ne) refl

but_same : {V : Type 0} → (a : ℕ) (v : V) (e : ℕ → V) (x : ℕ) → x ≡ a → but a v e x ≡ v
but_same a v e x is = rw (eq-eqb x a is) refl

module _ {V : Type 0} (blank : V) (gate : Kind → List V → V) (at : Bool → V) (table : HasTable blank gate at)
    (c : Netlist) where
  -- one gate's pin and its output
  module _ (depth : ℕ → ℕ) (deep : IsDepth c depth) (circuit : IsCircuit c) (g i : ℕ) (v w : Bool)
      (inside : g < length c.gates) (pin : i < length (gate_at c g).args)
      (values : equivalent_output (gate_at c g).kind (length (gate_at c g).args) v ≡ Some w) where
    abbrev by_output : Rules V
    by_output = stuck blank gate at (stem_site (first_gate_net c + g)) w

    -- the gate's value where its pin has the value of the table
    decided : (r : Rules V) (e : ℕ → V) → get_or (pin_values r g e 0 (gate_at c g).args) i blank ≡ at v
        → gate (gate_at c g).kind (pin_values r g e 0 (gate_at c g).args) ≡ at w
    decided r e is =
        let long = pins_length r g e 0 (gate_at c g).args in
        table.decides (gate_at c g).kind (pin_values r g e 0 (gate_at c g).args) i v w (omega arith) is
        (ap (λ (n : ℕ). equivalent_output (gate_at c g).kind n v) long ∙ values)

    pin_same : (vector latches : List V) (e : ℕ → V) (y : ℕ)
        → net_value_over c (stuck blank gate at (GatePin g i) v) vector latches e y
        ≡ net_value_over c by_output vector latches e y
    pin_same vector latches e y = elim (eqb_tells y (first_gate_net c + g)) [
      | inl p ↦
          let is : y ≡ first_gate_net c + g = p.1 in
          let here : y - first_gate_net c ≡ g = omega arith in
          let low : first_gate_net c ≤ y = omega arith in
          pin_gate blank gate at c g i v vector latches e y low here
          ∙ (decided (stuck blank gate at (GatePin g i) v) e (pin_stuck blank gate at c g i v e pin)
          ∙ sym (stem_stuck blank gate at c (first_gate_net c + g) w vector latches e y is))
      | inr p ↦
          let ne : y ≢ first_gate_net c + g = p.1 in
          pin_free blank gate at c g i v vector latches e y (λ low. let h : y - first_gate_net c ≢ g = omega arith in h)
          ∙ sym (stem_free blank gate at c (first_gate_net c + g) w vector latches e y ne)
    ]

    -- A stuck pin gives every net the value that the stuck output gives it.
    pin_value : (vector latches : List V) (x : ℕ) → x < net_count c
        → net_value c (stuck blank gate at (GatePin g i) v) vector latches x ≡ net_value c by_output vector latches x
    pin_value vector latches x within =
        settled_is_frame c depth deep by_output vector latches
        (net_value c (stuck blank gate at (GatePin g i) v) vector latches)
        (record {
          settled = λ y h. (frame_settled c depth deep (stuck blank gate at (GatePin g i) v) vector latches).settled y h
              ∙ pin_same vector latches (net_value c (stuck blank gate at (GatePin g i) v) vector latches) y;
        }) x within

    -- a stuck pin and the equivalent stuck output of its gate are alike in each frame
    pub pin_pair : FrameAlike c (stuck blank gate at (GatePin g i) v) by_output
    unfolding frame_outputs next_state forced
    pin_pair = record {
      outputs = λ vector latches. seen_same _ _ c.outputs
          (λ o l. pin_value vector latches _ (circuit.outputs_known o l));
      next = λ vector latches. taken_same by_output _ _ 0 c.dffs
          (λ j l. pin_value vector latches _ (circuit.data_known j l));
    }

    -- A stem that the gate alone reads, stuck, gives every other net the value that the stuck output gives it.
    module _ (a : ℕ) (known : a < net_count c) (reads : arg_at c g i ≡ a) (alone : IsReadBy c a g) where
      abbrev by_stem : Rules V
      by_stem = stuck blank gate at (stem_site a) v

      apart : a ≢ first_gate_net c + g
      apart q =
          let below : depth (arg_at c g i) < depth (first_gate_net c + g) = deep.falls g i inside pin in
          let same : depth (arg_at c g i) ≡ depth (first_gate_net c + g) = ap depth (reads ∙ q) in
          absurd (omega arith)

      module _ (vector latches : List V) where
        abbrev e : ℕ → V
        e = net_value c by_stem vector latches

        abbrev f : ℕ → V
        f = but a (net_value_over c by_output vector latches e a) e

        unread : (y : ℕ) → y < net_count c → y ≢ first_gate_net c + g → net_value_over c by_output vector latches e y
            ≡ net_value_over c by_output vector latches f y
        unread y h other = value_same c by_output vector latches e f y
            (λ k low l.
            let not_a : arg_at c (y - first_gate_net c) k ≢ a = λ q.
            let z = alone.gates (y - first_gate_net c) k (omega arith) l q in
            absurd (other (omega arith)) in
            sym (but_other a (net_value_over c by_output vector latches e a) e (arg_at c (y - first_gate_net c) k)
            not_a))

        pin_read : e a ≡ at v → get_or (pin_values by_stem g e 0 (gate_at c g).args) i blank ≡ at v
        unfolding forced
        pin_read is = pins_get by_stem g e 0 (gate_at c g).args i blank pin ∙ (ap e reads ∙ is)

        at_gate : (y : ℕ) → y < net_count c → get_or (pin_values by_stem g e 0 (gate_at c g).args) i blank ≡ at v
            → net_value_over c (good blank gate at) vector latches e y ≡ net_value_over c by_output vector latches f y
        at_gate y h shown = elim (eqb_tells y (first_gate_net c + g)) [
          | inl q ↦
              let is : y ≡ first_gate_net c + g = q.1 in
              let here : y - first_gate_net c ≡ g = omega arith in
              let low : first_gate_net c ≤ y = omega arith in
              good_gate blank gate at c a v vector latches e y g low here
              ∙ (decided by_stem e shown ∙ sym
              (stem_stuck blank gate at c (first_gate_net c + g) w vector latches f y is))
          | inr q ↦ sym (stem_free blank gate at c (first_gate_net c + g) w vector latches e y q.1) ∙ unread y h q.1
        ]

        stem_settled : IsSettled c by_output vector latches f
        stem_settled =
            let settled = frame_settled c depth deep by_stem vector latches in
            let is_stuck : e a ≡ at v = settled.settled a known ∙ stem_stuck blank gate at c a v vector latches e a refl
            in
            let shown : get_or (pin_values by_stem g e 0 (gate_at c g).args) i blank ≡ at v = pin_read is_stuck in
            record {
              settled = λ y h. elim (eqb_tells y a) [
                | inl p ↦
                    let is : y ≡ a = p.1 in
                    but_same a (net_value_over c by_output vector latches e a) e y is
                    ∙ (ap (λ (n : ℕ). net_value_over c by_output vector latches e n) (sym is) ∙ unread y h
                    (λ q. apart (sym is ∙ q)))
                | inr p ↦
                    let ne : y ≢ a = p.1 in
                    but_other a (net_value_over c by_output vector latches e a) e y ne
                    ∙ (settled.settled y h ∙ (stem_free blank gate at c a v vector latches e y ne ∙ at_gate y h shown))
              ];
            }

        stem_value : (x : ℕ) → x < net_count c → x ≢ a → e x ≡ net_value c by_output vector latches x
        stem_value x within ne =
            sym (but_other a (net_value_over c by_output vector latches e a) e x ne)
            ∙ settled_is_frame c depth deep by_output vector latches f stem_settled x within

      -- a stuck stem that one gate only reads and the equivalent stuck output of the gate are alike in each frame
      pub stem_pair : FrameAlike c by_stem by_output
      unfolding frame_outputs next_state forced
      stem_pair = record {
        outputs = λ vector latches. seen_same _ _ c.outputs
            (λ o l. stem_value vector latches _ (circuit.outputs_known o l) (alone.outputs o l));
        next = λ vector latches. taken_same by_output _ _ 0 c.dffs
            (λ j l. stem_value vector latches _ (circuit.data_known j l) (alone.dffs j l));
      }
