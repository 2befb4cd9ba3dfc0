-- At a net that isn't in reach of a fault the machines don't differ, whatever is decided.
use Rattle.std.proofs.Common.{◌≡◌, ◌∙◌, ◌<◌, ◌+◌, ◌-◌, ℕ, suc, zero, List, [], ◌∷◌, Bool, true, false, not, cond, Option, Some, None, length, get_or, refl, sym, ap, subst, inl, inr, arith}
use Rattle.std.specs.Prelude.{eqb, ltb}
use Rattle.std.proofs.lemmas.Bool.{false_from_ne_true, false≢true, lt-ltb, and_from, and_left, eq-eqb, eqb-true}
use Rattle.std.proofs.lemmas.List.{get_or_past}
use Rattle.std.proofs.lemmas.List.FromFn.{length-map-range_with_len, get_or-map-range_with_len}
use Rattle.ht_tern.specs.declared.tern.Tern.TheVariants.{Unk}
use Rattle.ht_pairs.specs.Pairs.{Pair, pair, same_tern, stuck_set}
use Rattle.ht_pairs.proofs.PairTests.{same_tern-true}
use Rattle.ht_net.specs.declared.net.NetId.{NetId}
use Rattle.ht_net.specs.declared.fault.Site.{Site}
use Rattle.ht_net.specs.declared.fault.Site.TheVariants.{Stem, DffPin, GatePin}
use Rattle.ht_net.specs.declared.fault.Fault.{Fault}
use Rattle.ht_net.specs.Circuit.Netlist.{Netlist, first_gate_net, net_count, gate_at, arg_at, no_net}
use Rattle.ht_net.specs.Frames.Frame.{Rules, pin_values, gate_output, net_value_over, net_value_within, net_value, next_state}
use Rattle.ht_net.specs.Frames.Faults.{forced, is_stem, is_pin, is_data_pin}
use Rattle.ht_net.proofs.FrameLaws.{le_or_lt, driven_input, driven_latch, driven_gate}
use Rattle.ht_net.proofs.ValueLaws.{taken_get}
use Rattle.ht_tree.specs.declared.token.Assign3.{Assign3}
use Rattle.ht_tree.specs.declared.window.Spot.TheVariants.{State}
use Rattle.ht_tree.specs.Window.Decisions.{decided_value, latch_pairs}
use Rattle.ht_tree.specs.Window.Places.{set_at}
use Rattle.ht_tree.specs.Window.Windows.{Start, one_frame, unknown, state_pair, back, SearchWindow, IsWindow, cell_at, first_input, first_latch, frame_inputs, input_set, latches_at, pair_set_rules}
use Rattle.ht_tree.specs.Window.WindowStatus.{value_at}
use Rattle.ht_relevant.specs.Alike.{IsAlike}
use Rattle.ht_relevant.specs.Reached.{IsReach, begins_at, leads_to, may_begin_apart}
use Rattle.ht_relevant.proofs.AlikeLaws.{AllAlike, same_alike, left_alike, one_alike, lifted_alike}

-- ---- lines that aren't stuck

unforced : {V : Type 0} (stick : Bool → V → V) (fault : Option Fault) (here : Site → Bool) (v : V)
    → ((f : Fault) → fault ≡ Some f → here f.site ≡ false) → forced stick fault here v ≡ v
unfolding forced
unforced stick None here v h = refl
unforced stick (Some fault) here v h = ap (λ (b : Bool). cond b (stick fault.value v) v) (h fault refl)

module _ (c : Netlist) where
  -- a net that a site doesn't lead to isn't its stem
  pub stem_apart : (site : Site) (x : ℕ) → leads_to c site x ≡ false → is_stem site x ≡ false
  stem_apart (Stem y) x h = h
  stem_apart (DffPin j) x h = refl
  stem_apart (GatePin g i) x h = refl

  pin_apart : (site : Site) (g i : ℕ) → leads_to c site (first_gate_net c + g) ≡ false → is_pin site g i ≡ false
  pin_apart (Stem y) g i h = refl
  pin_apart (DffPin j) g i h = refl
  pin_apart (GatePin k j) g i h = and_left (eqb g k) (eqb i j) (false_from_ne_true (eqb g k) (λ e.
      let same = eqb-true g k e in
      false≢true (sym h ∙ eq-eqb (first_gate_net c + g) (first_gate_net c + k)
      (ap (λ (n : ℕ). first_gate_net c + n) same))))

  -- a flip-flop that a site doesn't lead to doesn't have its data pin
  pub data_apart : (site : Site) (j : ℕ) → j < length c.dffs → leads_to c site (c.inputs + j) ≡ false
      → is_data_pin site j ≡ false
  data_apart (Stem y) j l h = refl
  data_apart (DffPin k) j l h = false_from_ne_true (eqb j k) (λ e.
      let same = eqb-true j k e in
      false≢true (sym h ∙ and_from (ltb k (length c.dffs)) (eqb (c.inputs + j) (c.inputs + k))
      (lt-ltb k (length c.dffs) (omega (arith, l, same)))
      (eq-eqb (c.inputs + j) (c.inputs + k) (ap (λ (n : ℕ). c.inputs + n) same))))
  data_apart (GatePin g i) j l h = refl

  at_fault : (fault : Option Fault) (x : ℕ) → begins_at c fault x ≡ false → (f : Fault) → fault ≡ Some f
      → leads_to c f.site x ≡ false
  at_fault None x h f e = cc
  at_fault (Some fault) x h f e = ap (λ (k : Option Fault). begins_at c k x) (sym e) ∙ h

-- ---- a window

-- a test from which another follows fails where that one does
pub unmarked : (a b : Bool) → (a ≡ true → b ≡ true) → b ≡ false → a ≡ false
unmarked a b h e = false_from_ne_true a (λ k. false≢true (sym e ∙ h k))

module _ (w : SearchWindow) (valid : IsWindow w) (is : ℕ → ℕ → Bool) (reach : IsReach w is) (path : List Assign3)
  where
    abbrev rules : Rules (List Pair)
    rules = pair_set_rules w.fault

    abbrev blank : List Pair
    blank = pair Unk Unk ∷ []

    -- net x of frame f isn't in reach
    abbrev IsFree : ℕ → ℕ → Type 0
    IsFree f x = is f x ≡ false

    blank_alike : IsAlike blank
    blank_alike = one_alike Unk Unk refl

    free_line : (f x : ℕ) → f < w.frames → x < net_count w.circuit → IsFree f x → (k : Fault) → w.fault ≡ Some k
        → leads_to w.circuit k.site x ≡ false
    free_line f x fs xs free = at_fault w.circuit w.fault x
        (unmarked (begins_at w.circuit w.fault x) (is f x) (reach.line f x fs xs) free)

    free_arg : (f g i : ℕ) → f < w.frames → g < length w.circuit.gates → i < length (gate_at w.circuit g).args
        → IsFree f (first_gate_net w.circuit + g) → IsFree f (arg_at w.circuit g i)
    free_arg f g i fs gs l free = unmarked (is f (arg_at w.circuit g i)) (is f (first_gate_net w.circuit + g))
        (reach.gates f g i fs gs l) free

    input_alike : (f i : ℕ) → IsAlike (get_or (frame_inputs w path f) i blank)
    input_alike f i = elim (le_or_lt w.circuit.inputs i) [
      | inl past ↦
          let few = length-map-range_with_len (input_set path) (first_input w f) w.circuit.inputs in
          subst IsAlike (sym (get_or_past (frame_inputs w path f) i blank (omega (arith, past, few)))) blank_alike
      | inr l ↦ subst IsAlike
          (sym (get_or-map-range_with_len (input_set path) (first_input w f) w.circuit.inputs i (first_input w f + i)
          blank l refl))
          (same_alike (decided_value path (first_input w f + i)))
    ]

    pins_alike : (env : ℕ → List Pair) (g i : ℕ) (args : List NetId)
        → ((j : ℕ) → j < length args → IsAlike (rules.pin g (i + j) (env (get_or args j no_net).0)))
        → AllAlike (pin_values rules g env i args)
    pins_alike env g i [] h = tt
    pins_alike env g i (a ∷ args) h =
        let at : i + 0 ≡ i = omega arith in (
          subst (λ (k : ℕ). IsAlike (rules.pin g k (env a.0))) at (h 0 (omega arith)),
          pins_alike env g (i + 1) args (λ j l. let next : i + suc j ≡ i + 1 + j = omega arith in
              subst (λ (k : ℕ). IsAlike (rules.pin g k (env (get_or args j no_net).0))) next
              (h (suc j) (omega (arith, l)))),
        )

    -- the latches that aren't in reach are alike in frame f
    abbrev AreLatchesAlike : ℕ → List (List Pair) → Type 0
    AreLatchesAlike f latches = (j : ℕ) → j < length w.circuit.dffs → IsFree f (w.circuit.inputs + j)
        → IsAlike (get_or latches j blank)

    module _ (f : ℕ) (fs : f < w.frames) (latches : List (List Pair)) (alike : AreLatchesAlike f latches) where
      abbrev over : (ℕ → List Pair) → ℕ → List Pair
      over env x = net_value_over w.circuit rules (frame_inputs w path f) latches env x

      gate_alike : (env : ℕ → List Pair) → ((x : ℕ) → x < net_count w.circuit → IsFree f x → IsAlike (env x))
          → (g : ℕ) → g < length w.circuit.gates → IsFree f (first_gate_net w.circuit + g)
          → IsAlike (gate_output w.circuit rules env g)
      unfolding gate_output
      gate_alike env h g gs free = lifted_alike (gate_at w.circuit g).kind
          (pin_values rules g env 0 (gate_at w.circuit g).args)
          (pins_alike env g 0 (gate_at w.circuit g).args (λ j l.
          let a = (get_or (gate_at w.circuit g).args j no_net).0 in
          let xs : first_gate_net w.circuit + g < net_count w.circuit = omega (arith, gs) in
          subst IsAlike (sym (unforced stuck_set w.fault (λ site. is_pin site g (0 + j)) (env a)
          (λ k e. pin_apart w.circuit k.site g (0 + j) (free_line f (first_gate_net w.circuit + g) fs xs free k e))))
          (h a (valid.circuit.known g j gs l) (free_arg f g j fs gs l free))))

      over_alike : (env : ℕ → List Pair) → ((x : ℕ) → x < net_count w.circuit → IsFree f x → IsAlike (env x))
          → (x : ℕ) → x < net_count w.circuit → IsFree f x → IsAlike (over env x)
      unfolding net_value_over
      over_alike env h x xs free =
          let c = w.circuit in
          let I = frame_inputs w path f in
          let through = λ (v : List Pair). λ (k : IsAlike v). subst IsAlike
          (sym (unforced stuck_set w.fault (λ site. is_stem site x) v
          (λ k e. stem_apart c k.site x (free_line f x fs xs free k e)))) k in
          elim (le_or_lt (first_gate_net c) x) [
            | inl at ↦
                let back : first_gate_net c + (x - first_gate_net c) ≡ x = omega (arith, at) in
                through _ (subst IsAlike (sym (driven_gate c rules I latches env x at))
                (gate_alike env h (x - first_gate_net c) (omega (arith, at, xs)) (subst (IsFree f) (sym back) free)))
            | inr low ↦ elim (le_or_lt c.inputs x) [
              | inl at ↦
                  let back : c.inputs + (x - c.inputs) ≡ x = omega (arith, at) in
                  through _ (subst IsAlike (sym (driven_latch c rules I latches env x at low))
                  (alike (x - c.inputs) (omega (arith, at, low)) (subst (IsFree f) (sym back) free)))
              | inr l ↦ through _ (subst IsAlike (sym (driven_input c rules I latches env x l)) (input_alike f x))
            ]
          ]

      within_alike : (k x : ℕ) → x < net_count w.circuit → IsFree f x
          → IsAlike (net_value_within k w.circuit rules (frame_inputs w path f) latches x)
      unfolding net_value_within
      within_alike zero x xs free = blank_alike
      within_alike (suc k) x xs free = over_alike
          (net_value_within k w.circuit rules (frame_inputs w path f) latches)
          (λ y ys quiet. within_alike k y ys quiet) x xs free

      net_alike : (x : ℕ) → x < net_count w.circuit → IsFree f x
          → IsAlike (net_value w.circuit rules (frame_inputs w path f) latches x)
      unfolding net_value
      net_alike x xs free = within_alike (suc (length w.circuit.gates)) x xs free

    -- ---- frame by frame

    first_alike : (s : Start) (j : ℕ) → may_begin_apart s j ≡ false → IsAlike (first_latch w s path j)
    first_alike (one_frame z) j h =
        subst (λ (b : Bool). IsAlike (latch_pairs b (decided_value path (w.circuit.inputs + j))
        (decided_value path (first_gate_net w.circuit + j)))) (sym h)
        (same_alike (decided_value path (w.circuit.inputs + j)))
    first_alike unknown j h = blank_alike
    first_alike (state_pair good faulty) j h = one_alike (value_at good j) (value_at faulty j)
        (same_tern-true (value_at good j) (value_at faulty j)
        (turned (same_tern (value_at good j) (value_at faulty j)) h))
      where
        turned : (b : Bool) → not b ≡ false → b ≡ true
        turned true k = refl
        turned false k = cc
    first_alike (back cube limit) j h = left_alike (decided_value path (w.circuit.inputs + j))

    latches_alike : (f : ℕ) → f < w.frames → AreLatchesAlike f (latches_at w path f)
    unfolding latches_at next_state
    latches_alike zero fs j js free =
        subst IsAlike (sym (get_or-map-range_with_len (first_latch w w.start path) 0 (length w.circuit.dffs) j j blank
        js (omega arith)))
        (first_alike w.start j (unmarked (may_begin_apart w.start j)
        (is 0 (w.circuit.inputs + j)) (reach.latches j js) free))
    latches_alike (suc f) fs j js free =
        let c = w.circuit in
        let d = (get_or c.dffs j no_net).0 in
        let before : f < w.frames = omega (arith, fs) in
        let env = net_value c rules (frame_inputs w path f) (latches_at w path f) in
        let xs : c.inputs + j < net_count c = omega (arith, js) in
        subst IsAlike (sym (taken_get rules env 0 c.dffs j blank js ∙ unforced stuck_set w.fault
        (λ site. is_data_pin site (0 + j)) (env d)
        (λ k e. data_apart c k.site (0 + j) (omega (arith, js))
        (subst (λ (n : ℕ). leads_to c k.site (c.inputs + n) ≡ false) (omega arith)
        (free_line (suc f) (c.inputs + j) fs xs free k e)))))
        (net_alike f before (latches_at w path f) (latches_alike f before) d (valid.circuit.data_known j js)
        (unmarked (is f d) (is (suc f) (c.inputs + j)) (reach.dffs f j fs js) free))

    -- a cell that isn't in reach holds the same in both machines
    pub cell_alike : (f x : ℕ) → f < w.frames → x < net_count w.circuit → is f x ≡ false
        → IsAlike (cell_at w path f x)
    cell_alike f x fs xs free = net_alike f fs (latches_at w path f) (latches_alike f fs) x xs free

    -- what a flip-flop takes where neither its data net is in reach nor its data pin is stuck
    pub state_alike : (j : ℕ) → 0 < w.frames → j < length w.circuit.dffs
        → is 0 (get_or w.circuit.dffs j no_net).0 ≡ false
        → ((k : Fault) → w.fault ≡ Some k → is_data_pin k.site j ≡ false) → IsAlike (set_at w path 0 (State j))
    state_alike j some js free apart =
        let d = (get_or w.circuit.dffs j no_net).0 in
        subst IsAlike (sym (unforced stuck_set w.fault (λ site. is_data_pin site j) (cell_at w path 0 d) apart))
        (cell_alike 0 d some (valid.circuit.data_known j js) free)
