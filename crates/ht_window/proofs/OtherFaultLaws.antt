-- Which nets get the same under another fault and another start, and the cells of the first frames.
use Rattle.std.proofs.Common.{◌≡◌, ◌<◌, ◌≤◌, ◌+◌, ◌*◌, ◌-◌, inl, inr, ℕ, suc, zero, List, Bool, true, false, Option, None, Some, Result, Ok, Err, IfOk, cond, map, length, get_or, take, refl, sym, ◌∙◌, ap, arith, subst}
use Rattle.std.specs.List.{range_with_len}
use Rattle.std.proofs.lemmas.Bool.Decides.{nat_tests}
use Rattle.std.proofs.lemmas.List.{get_or-take}
use Rattle.ht_pairs.specs.Pairs.{Pair, pair, lifted_set, stuck_set}
use Rattle.ht_net.specs.declared.fault.Site.{Site}
use Rattle.ht_net.specs.declared.fault.Site.TheVariants.{Stem, DffPin, GatePin}
use Rattle.ht_net.specs.declared.fault.Fault.{Fault}
use Rattle.ht_net.specs.Circuit.Netlist.{Netlist, net_count, first_gate_net, gate_at, no_net}
use Rattle.ht_net.specs.Frames.Frame.{net_value, net_value_over, driver_value, gate_output, next_state}
use Rattle.ht_net.specs.Frames.Faults.{forced}
use Rattle.ht_net.proofs.FrameLaws.{le_or_lt, driven_input, driven_latch, driven_gate}
use Rattle.ht_net.proofs.ValueLaws.{taken_get}
use Rattle.ht_frame.specs.StuckPins.{is_at_gate, is_pin_of}
use Rattle.ht_frame.proofs.PinLaws.{plain_pins}
use Rattle.ht_tree.specs.declared.token.Assign3.{Assign3}
use Rattle.ht_tree.specs.Window.Decisions.{is_in, decided_value, latch_pairs, latch_values_left}
use Rattle.ht_tree.specs.Window.Windows.{SearchWindow, Start, one_frame, unknown, state_pair, back, IsWindow, first_latch, frame_inputs, pair_set_rules, latches_at}
use Rattle.ht_relevant.specs.Relevant.{IsClosedBack}
use Rattle.ht_window.specs.Cells.{env_at, blank, latches_over, value_over, HoldsValue, AreCells}
use Rattle.ht_window.specs.Standing.{Standing}
use Rattle.ht_window.specs.Holding.{HeldState}
use Rattle.ht_relevant.specs.Reached.{leads_to, begins_at}
use Rattle.ht_relevant.proofs.ReachLaws.{stem_apart, data_apart}
use Rattle.ht_window.specs.Renewals.{HoldsElsewhere}
use Rattle.ht_window.proofs.PlaceLaws.{rows_inside}
use Rattle.ht_window.proofs.ReaderLaws.{over_same}
use Rattle.ht_window.proofs.HoldLaws.{cells_hold}

-- the pins of a gate that the fault isn't at
no_gate : (c : Netlist) (site : Site) (x : ℕ) → first_gate_net c ≤ x → leads_to c site x ≡ false
    → is_pin_of site (x - first_gate_net c) ≡ false
no_gate c (Stem y) x at h = refl
no_gate c (DffPin k) x at h = refl
no_gate c (GatePin g k) x at h = grind (arith, nat_tests, h)

no_gate_of : (c : Netlist) (fault : Option Fault) (x : ℕ) → first_gate_net c ≤ x → begins_at c fault x ≡ false
    → is_at_gate fault (x - first_gate_net c) ≡ false
no_gate_of c None x at h = refl
no_gate_of c (Some fault) x at h = no_gate c fault.site x at h

plain_stem : (c : Netlist) (fault : Option Fault) (x : ℕ) (v : List Pair) → begins_at c fault x ≡ false
    → (pair_set_rules fault).stem x v ≡ v
unfolding forced
plain_stem c None x v h = refl
plain_stem c (Some fault) x v h = ap (λ (b : Bool). cond b (stuck_set fault.value v) v) (stem_apart c fault.site x h)

plain_data_pin : (c : Netlist) (fault : Option Fault) (j : ℕ) (v : List Pair) → j < length c.dffs
    → begins_at c fault (c.inputs + j) ≡ false → (pair_set_rules fault).data_pin j v ≡ v
unfolding forced
plain_data_pin c None j v js h = refl
plain_data_pin c (Some fault) j v js h = ap (λ (b : Bool). cond b (stuck_set fault.value v) v)
    (data_apart c fault.site j js h)

plain_gate : (c : Netlist) (fault : Option Fault) (e : ℕ → List Pair) (x : ℕ) → first_gate_net c ≤ x
    → begins_at c fault x ≡ false
    → gate_output c (pair_set_rules fault) e (x - first_gate_net c)
    ≡ gate_output c (pair_set_rules None) e (x - first_gate_net c)
unfolding gate_output
plain_gate c fault e x at h =
    let g = x - first_gate_net c in
    let args = (gate_at c g).args in
    ap (lifted_set (gate_at c g).kind)
    (plain_pins blank lifted_set stuck_set fault g e 0 args (no_gate_of c fault x at h)
    ∙ sym (plain_pins blank lifted_set stuck_set None g e 0 args refl))

-- what a start gives a latch rests on the circuit and the decisions
first_latch_same : (w v : SearchWindow) (s : Start) (path : List Assign3) (j : ℕ) → v.circuit ≡ w.circuit
    → first_latch v s path j ≡ first_latch w s path j
first_latch_same w v (one_frame z) path j e = λ i. latch_pairs (is_in z j) (decided_value path ((e i).inputs + j))
    (decided_value path (first_gate_net (e i) + j))
first_latch_same w v unknown path j e = refl
first_latch_same w v (state_pair good faulty) path j e = refl
first_latch_same w v (back cube limit) path j e =
    λ i. map (λ value. pair value value) (latch_values_left (decided_value path ((e i).inputs + j)))

-- the window of the good machine
abbrev good : SearchWindow → SearchWindow
good w = record w { fault = None }

module _ (w : SearchWindow) (path : List Assign3) (values : List (List Pair)) where
  good_latch : (f j : ℕ) → j < length w.circuit.dffs → begins_at w.circuit w.fault (w.circuit.inputs + j) ≡ false
      → get_or (latches_over w path values f) j blank ≡ get_or (latches_over (good w) path values f) j blank
  unfolding latches_over
  good_latch zero j js free =
      λ i. get_or (map (λ k. first_latch_same (good w) w w.start path k refl i) (range_with_len 0
      (length w.circuit.dffs))) j blank
  good_latch (suc f) j js free =
      let c = w.circuit in
      let e = env_at w values f in
      let at : 0 + j ≡ j = omega arith in
      let v = e (get_or c.dffs j no_net).0 in
      taken_get (pair_set_rules w.fault) e 0 c.dffs j blank js
      ∙ (ap (λ (k : ℕ). (pair_set_rules w.fault).data_pin k v) at
      ∙ (plain_data_pin c w.fault j v js free
      ∙ (sym (plain_data_pin c None j v js refl)
      ∙ (sym (ap (λ (k : ℕ). (pair_set_rules None).data_pin k v) at)
      ∙ sym (taken_get (pair_set_rules None) e 0 c.dffs j blank js)))))

  -- a net that the fault doesn't reach first gets what it gets in the good machine
  unreached : (f x : ℕ) → begins_at w.circuit w.fault x ≡ false
      → value_over w path values f x ≡ value_over (good w) path values f x
  unfolding net_value_over
  unreached f x free =
      let c = w.circuit in
      let r = pair_set_rules w.fault in
      let q = pair_set_rules None in
      let I = frame_inputs w path f in
      let L = latches_over w path values f in
      let M = latches_over (good w) path values f in
      let e = env_at w values f in
      plain_stem c w.fault x (driver_value c r I L e x) free ∙ (elim (le_or_lt (first_gate_net c) x) [
        | inl at ↦ driven_gate c r I L e x at ∙ (plain_gate c w.fault e x at free ∙ sym (driven_gate c q I M e x at))
        | inr low ↦ elim (le_or_lt c.inputs x) [
          | inl at ↦
              let back : c.inputs + (x - c.inputs) ≡ x = omega (arith, at) in
              driven_latch c r I L e x at low
              ∙ (good_latch f (x - c.inputs) (omega (arith, at, low)) (ap (begins_at c w.fault) back ∙ free)
              ∙ sym (driven_latch c q I M e x at low))
          | inr l ↦ driven_input c r I L e x l ∙ sym (driven_input c q I M e x l)
        ]
      ] ∙ sym (plain_stem c None x (driver_value c q I M e x) refl))

  -- and one that isn't a latch of the first frame what it gets from another start
  other_start : (s : Start) (f x : ℕ) → (f ≡ 0 → w.circuit.inputs ≤ x → first_gate_net w.circuit ≤ x)
      → value_over w path values f x ≡ value_over (record w { start = s }) path values f x
  unfolding latches_over
  other_start s f x late =
      let r = pair_set_rules w.fault in
      let I = frame_inputs w path f in
      let e = env_at w values f in
      over_same w.circuit r I I (latches_over w path values f) (latches_over (record w { start = s }) path values f) e e
      x
      (λ l. refl) (λ at low. latch f late at low) (λ j at pin. refl) where
        latch : (g : ℕ) → (g ≡ 0 → w.circuit.inputs ≤ x → first_gate_net w.circuit ≤ x) → w.circuit.inputs ≤ x
            → x < first_gate_net w.circuit
            → get_or (latches_over w path values g) (x - w.circuit.inputs) blank
            ≡ get_or (latches_over (record w { start = s }) path values g) (x - w.circuit.inputs) blank
        latch zero late at low = let high = late refl at in absurd (omega (arith, high, low))
        latch (suc g) late at low = refl

-- In a whole window a net that neither fault reaches first, and that isn't a latch of the first frame, holds its cell in
-- the window of another fault from another start too.
unreached_hold : (w : SearchWindow) → IsWindow w → (path : List Assign3) (values : List (List Pair))
    → AreCells w (λ f x. true) path values → (fault : Option Fault) (s : Start) (f x : ℕ) → f < w.frames
    → x < net_count w.circuit → begins_at w.circuit w.fault x ≡ false → begins_at w.circuit fault x ≡ false
    → (f ≡ 0 → w.circuit.inputs ≤ x → first_gate_net w.circuit ≤ x)
    → HoldsValue (record w { fault = fault; start = s }) path values f x
unreached_hold w valid path values are fault s f x fs xs free freed late =
    let whole : IsClosedBack w.circuit w.frames (λ f x. true) = record {
      gates = λ f g i fs gs l m. refl;
      dffs = λ f j fs js m. refl;
    } in
    cells_hold w valid path (λ f x. true) whole values are f x fs xs refl
    ∙ (unreached w path values f x free
    ∙ (other_start (good w) path values s f x late
    ∙ sym (unreached (record w { fault = fault; start = s }) path values f x freed)))

-- the cells of a whole window under another fault and another start
pub holds_elsewhere : (w : SearchWindow) → IsWindow w → (path : List Assign3) (b : HeldState)
    (fault : Option Fault) (s : Start)
    → b.standing ≡ record { window = record w { fault = fault; start = s }; path = path }
    → AreCells w (λ f x. true) path b.cells.values → HoldsElsewhere b w.fault
holds_elsewhere w valid path b fault s is are =
    subst (λ (n : Standing). HoldsElsewhere (record { standing = n; cells = b.cells; relevant = b.relevant }) w.fault)
    (sym is)
    (record { holds = unreached_hold w valid path b.cells.values are fault s })

-- this rests on the window, the decisions and the cells alone
pub still_elsewhere : (a b : HeldState) (before : Option Fault) → b.standing ≡ a.standing
    → b.cells.values ≡ a.cells.values → HoldsElsewhere a before → HoldsElsewhere b before
still_elsewhere a b before standing values h =
    subst (λ (n : Standing). HoldsElsewhere (record { standing = n; cells = b.cells; relevant = b.relevant }) before)
    (sym standing)
    (record {
      holds = subst (λ (l : List (List Pair)). (f x : ℕ) → f < a.standing.window.frames
          → x < net_count a.standing.window.circuit → begins_at a.standing.window.circuit before x ≡ false
          → begins_at a.standing.window.circuit a.standing.window.fault x ≡ false
          → (f ≡ 0 → a.standing.window.circuit.inputs ≤ x → first_gate_net a.standing.window.circuit ≤ x)
          → HoldsValue a.standing.window a.standing.path l f x) (sym values) h.holds;
    })

module _ (w : SearchWindow) (path : List Assign3) (n : ℕ) where
  latches_front : (f : ℕ) → latches_at (record w { frames = n }) path f ≡ latches_at w path f
  unfolding latches_at
  latches_front zero = λ i. map (λ j. first_latch_same w (record w { frames = n }) w.start path j refl i)
      (range_with_len 0 (length w.circuit.dffs))
  latches_front (suc f) = ap (next_state w.circuit (pair_set_rules w.fault) (frame_inputs w path f)) (latches_front f)

  -- the cells of the first frames are those of the window that has no more
  pub front_cells : (values : List (List Pair)) → n ≤ w.frames → AreCells w (λ f x. true) path values
      → AreCells (record w { frames = n }) (λ f x. true) path (take (n * net_count w.circuit) values)
  front_cells values few are = record {
    cells = λ f x fs xs m.
        let nets = net_count w.circuit in
        get_or-take (n * nets) values (f * nets + x) blank (rows_inside nets n f x fs xs)
        ∙ (are.cells f x (omega (arith, fs, few)) xs refl
        ∙ sym (ap (λ (L : List (List Pair)). net_value w.circuit (pair_set_rules w.fault) (frame_inputs w path f) L x)
        (latches_front f)));
  }

-- what two facts of a value say together
pub of_two : {X Y : Type 0} → (r : Result X Y) → {P Q R : X → Type 0} → ((x : X) → P x → Q x → R x) → IfOk r P
    → IfOk r Q → IfOk r R
of_two (Ok x) f p q = f x p q
of_two (Err e) f p q = p
