-- Nets whose sets follow the sources of a frame.
use Rattle.std.specs.Prelude.{set}
use Rattle.std.specs.List.{Contains}
use Rattle.std.proofs.Common.{◌≡◌, ◌≢◌, ◌<◌, ◌≤◌, ◌+◌, ◌-◌, ◌∙◌, ℕ, List, [], ◌∷◌, Bool, true, false, Option, Some, None, length, get_or, ap, sym, refl, subst, arith, inl, inr}
use Rattle.std.proofs.lemmas.Bool.Decides.{eqb_tells}
use Rattle.std.proofs.lemmas.List.{get_or-set_other, length-set}
use Rattle.std.proofs.lemmas.Bool.{cond-false}
use Rattle.ht_tern.specs.declared.tern.Tern.TheVariants.{Unk}
use Rattle.ht_pairs.specs.Pairs.{Pair, pair, lifted_set, stuck_set}
use Rattle.ht_net.specs.declared.fault.Site.{Site}
use Rattle.ht_net.specs.declared.fault.Site.TheVariants.{Stem, DffPin, GatePin}
use Rattle.ht_net.specs.declared.fault.Fault.{Fault}
use Rattle.ht_net.specs.Circuit.Netlist.{Netlist, first_gate_net, net_count, gate_at, arg_at, IsCircuit}
use Rattle.ht_net.specs.Frames.Faults.{forced, is_stem}
use Rattle.ht_net.specs.Frames.Frame.{gate_output, net_value, net_value_over, values_at}
use Rattle.ht_net.proofs.FrameLaws.{IsSettled, le_or_lt, settled_is_frame, driven_input, driven_latch, driven_gate, gate_same}
use Rattle.ht_net.proofs.DepthLaws.{circuit_depth}
use Rattle.ht_frame.specs.StuckPins.{is_at_gate, is_pin_of}
use Rattle.ht_frame.proofs.PinLaws.{plain_pins}
use Rattle.ht_events.specs.Schedules.{IsSchedule}
use Rattle.ht_events.specs.declared.schedule.Schedule.{Schedule}
use Rattle.ht_events.proofs.ReaderLaws.{reads_pin}
use Rattle.ht_events.proofs.ScheduleLaws.{no_self}
use Rattle.ht_tree.specs.Window.Windows.{pair_set_rules}
use Rattle.ht_recompute.specs.GateSets.{AreGatesSettled, AreQuietSettled, IsGateSettled, gate_rank, is_gate_line, is_stuck_gate, sets_of}

-- A mark that more marks leave off was off.
pub was_off : (before after : Bool) → (before ≡ true → after ≡ true) → after ≡ false → before ≡ false
was_off true after more off = let bad : true ≡ false = sym (more refl) ∙ off in cc
was_off false after more off = refl

-- A gate is settled as it was where its net and those that it reads have the sets that they had.
gate_kept : (c : Netlist) (fault : Option Fault) (g : ℕ) (before values : List (List Pair))
    → sets_of values (first_gate_net c + g) ≡ sets_of before (first_gate_net c + g)
    → ((i : ℕ) → i < length (gate_at c g).args → sets_of values (arg_at c g i) ≡ sets_of before (arg_at c g i))
    → IsGateSettled c fault before g → IsGateSettled c fault values g
gate_kept c fault g before values same read settled =
    let r = pair_set_rules fault in
    same ∙ (settled ∙ ap (r.stem (first_gate_net c + g))
    (gate_same c r (sets_of before) (sets_of values) g (λ i pin. sym (read i pin))))

-- Gates have the ranks from that of the first gate's net on.
module _ (c : Netlist) (s : Schedule) (is : IsSchedule c s) where
  -- the net of a rank from that of the first gate's net on is a gate's
  pub gate_of_rank : (rank : ℕ) → first_gate_net c ≤ rank → rank < net_count c
      → first_gate_net c ≤ get_or s.order.items rank 0
  gate_of_rank rank high inside = elim (le_or_lt (first_gate_net c) (get_or s.order.items rank 0)) [
    | inl gate ↦ gate
    | inr source ↦
        let first = is.ranks.first (get_or s.order.items rank 0) source in
        let forth = is.ranks.forth rank inside in
        absurd (omega (arith, first, forth, source, high))
  ]

  -- each gate has a rank from that of the first gate's net on
  pub rank_of_gate : (g : ℕ) → g < length c.gates → first_gate_net c ≤ gate_rank c s g
  rank_of_gate g inside = elim (le_or_lt (first_gate_net c) (gate_rank c s g)) [
    | inl high ↦ high
    | inr low ↦
        let rank = gate_rank c s g in
        let at : get_or s.order.items (gate_rank c s g) 0 ≡ first_gate_net c + g =
        is.ranks.back (first_gate_net c + g) (omega arith) in
        let first = is.ranks.first (gate_rank c s g) low in
        let source : get_or s.order.items (gate_rank c s g) 0 ≡ gate_rank c s g =
        ap (λ (n : ℕ). get_or s.order.items n 0) (sym first) ∙ is.ranks.back rank (omega arith) in
        absurd (omega (arith, at, source, low))
  ]

  -- A net got a set, and where that was another its readers are pending.
  module _ (fault : Option Fault) (net : ℕ) (before values : List (List Pair)) (touched : List Bool) (row : List ℕ)
      (row_is : row ≡ get_or s.readers net [])
      (others : (x : ℕ) → x ≢ net → sets_of values x ≡ sets_of before x)
      (read : (r : ℕ) → Contains row r → get_or touched r false ≡ false → values ≡ before) where
    still_settled : (g : ℕ) → g < length c.gates → first_gate_net c + g ≢ net
        → get_or touched (gate_rank c s g) false ≡ false
        → IsGateSettled c fault before g → IsGateSettled c fault values g
    still_settled g inside ne idle =
        gate_kept c fault g before values (others (first_gate_net c + g) ne)
        (λ i pin. elim (eqb_tells (arg_at c g i) net) [
          | inl p ↦
              let has =
              is.readers.complete (first_gate_net c + g) (arg_at c g i) (reads_pin c g i (arg_at c g i) inside pin refl)
              in
              ap (λ (l : List (List Pair)). sets_of l (arg_at c g i))
              (read (gate_rank c s g) (subst (λ (l : List ℕ). Contains l (gate_rank c s g)) (sym row_is)
              (subst (λ (x : ℕ). Contains (get_or s.readers x []) (gate_rank c s g)) p.1 has)) idle)
          | inr p ↦ others (arg_at c g i) p.1
        ])

    -- It is the net of an input or a flip-flop.
    pub source_quiet : (pending : List Bool) → net < first_gate_net c → length values ≡ length before
        → length touched ≡ length pending → ((r : ℕ) → get_or pending r false ≡ true → get_or touched r false ≡ true)
        → AreQuietSettled c s fault pending before → AreQuietSettled c s fault touched values
    source_quiet pending low sets marks more quiet = record {
      schedule = is;
      sets = sets ∙ quiet.sets;
      marks = marks ∙ quiet.marks;
      each = λ g inside idle.
          still_settled g inside (omega arith) idle
          (quiet.each g inside (was_off (get_or pending (gate_rank c s g) false)
          (get_or touched (gate_rank c s g) false) (more (gate_rank c s g)) idle));
    }

    -- It is the net of the gate of a rank, which is pending no more.
    pub fired_quiet : (pending removed : List Bool) (rank g : ℕ) → net ≡ get_or s.order.items rank 0
        → net ≡ first_gate_net c + g → removed ≡ set pending rank false
        → sets_of values net
        ≡ (pair_set_rules fault).stem net (gate_output c (pair_set_rules fault) (sets_of before) g)
        → length values ≡ length before → length touched ≡ length removed
        → ((r : ℕ) → get_or removed r false ≡ true → get_or touched r false ≡ true)
        → AreQuietSettled c s fault pending before → AreQuietSettled c s fault touched values
    fired_quiet pending removed rank g at net_is taken given sets marks more quiet = record {
      schedule = is;
      sets = sets ∙ quiet.sets;
      marks = marks ∙ (ap (λ (l : List Bool). length l) taken ∙ (length-set pending rank false ∙ quiet.marks));
      each = λ h inside idle.
          let r = pair_set_rules fault in
          elim (eqb_tells h g) [
            | inl p ↦
                let back : g ≡ h = sym p.1 in
                let here : net ≡ first_gate_net c + h = net_is ∙ ap (λ (n : ℕ). first_gate_net c + n) back in
                ap (sets_of values) (sym here) ∙ (given
                ∙ (λ i. r.stem (here i) (gate_output c r (sets_of before) (back i)))
                ∙ ap (r.stem (first_gate_net c + h)) (gate_same c r (sets_of before) (sets_of values) h
                (λ i pin. sym (others (arg_at c h i) (λ e.
                no_self c s is (first_gate_net c + h)
                (reads_pin c h i (first_gate_net c + h) inside pin (sym (e ∙ here))))))))
            | inr p ↦
                let apart : first_gate_net c + h ≢ net = let n = p.1 in λ e. n (omega (arith, e, net_is)) in
                let other : gate_rank c s h ≢ rank =
                λ e. apart (sym (is.ranks.back (first_gate_net c + h) (omega arith))
                ∙ (ap (λ (n : ℕ). get_or s.order.items n 0) e ∙ sym at)) in
                still_settled h inside apart idle (quiet.each h inside
                (sym (get_or-set_other pending rank (gate_rank c s h) false false other)
                ∙ (sym (ap (λ (l : List Bool). get_or l (gate_rank c s h) false) taken)
                ∙ was_off (get_or removed (gate_rank c s h) false) (get_or touched (gate_rank c s h) false)
                (more (gate_rank c s h)) idle)))
          ];
    }

  -- All gates are pending.
  pub all_pending : (fault : Option Fault) (pending : List Bool) (values : List (List Pair))
      → length values ≡ net_count c → length pending ≡ net_count c
      → ((r : ℕ) → first_gate_net c ≤ r → r < net_count c → get_or pending r false ≡ true)
      → AreQuietSettled c s fault pending values
  all_pending fault pending values sets marks all = record {
    schedule = is;
    sets = sets;
    marks = marks;
    each = λ g inside idle.
        let small = is.ranks.small (first_gate_net c + g) (omega arith) in
        let on = all (gate_rank c s g) (rank_of_gate g inside) small in
        let bad : true ≡ false = sym on ∙ idle in cc;
  }

  -- No gate is pending.
  pub none_pending : (fault : Option Fault) (pending : List Bool) (values : List (List Pair))
      → ((r : ℕ) → first_gate_net c ≤ r → get_or pending r false ≡ false)
      → AreQuietSettled c s fault pending values → AreGatesSettled c fault values
  none_pending fault pending values none quiet = record {
    each = λ g inside. quiet.each g inside (none (gate_rank c s g) (rank_of_gate g inside));
  }

-- Where gates are settled and the sources were driven, the nets have their sets in a frame.
pub settled_have : (c : Netlist) (circuit : IsCircuit c) (fault : Option Fault)
    (vector latches values : List (List Pair)) → AreGatesSettled c fault values
    → ((x : ℕ) → x < c.inputs → sets_of values x ≡ (pair_set_rules fault).stem x (sets_of vector x))
    → ((x : ℕ) → c.inputs ≤ x → x < first_gate_net c
    → sets_of values x ≡ (pair_set_rules fault).stem x (sets_of latches (x - c.inputs)))
    → (x : ℕ) → x < net_count c → sets_of values x ≡ net_value c (pair_set_rules fault) vector latches x
unfolding net_value_over
settled_have c circuit fault vector latches values settled inputs states =
    let r = pair_set_rules fault in
    let env : ℕ → List Pair = sets_of values in
    let depth = circuit_depth c circuit in
    let whole : IsSettled c r vector latches env = record {
      settled = λ x inside. elim (le_or_lt (first_gate_net c) x) [
        | inl at ↦
            let is : first_gate_net c + (x - first_gate_net c) ≡ x = omega arith in
            ap env (sym is) ∙ (settled.each (x - first_gate_net c) (omega arith)
            ∙ (ap (λ (n : ℕ). r.stem n (gate_output c r env (x - first_gate_net c))) is
            ∙ ap (r.stem x) (sym (driven_gate c r vector latches env x at))))
        | inr low ↦ elim (le_or_lt c.inputs x) [
          | inl at ↦ states x at low ∙ ap (r.stem x) (sym (driven_latch c r vector latches env x at low))
          | inr below ↦ inputs x below ∙ ap (r.stem x) (sym (driven_input c r vector latches env x below))
        ]
      ];
    } in
    settled_is_frame c depth.0 depth.1 r vector latches env whole

-- Two faults at other gates: a gate is settled under both or under none.
no_stem : (c : Netlist) (site : Site) (g : ℕ) → is_gate_line c site g ≡ false
    → is_stem site (first_gate_net c + g) ≡ false
no_stem c (Stem x) g h = h
no_stem c (GatePin f i) g h = refl
no_stem c (DffPin j) g h = refl

no_pins : (c : Netlist) (site : Site) (g : ℕ) → is_gate_line c site g ≡ false → is_pin_of site g ≡ false
no_pins c (Stem x) g h = refl
no_pins c (GatePin f i) g h = h
no_pins c (DffPin j) g h = refl

free_stem : (c : Netlist) (fault : Option Fault) (g : ℕ) (v : List Pair) → is_stuck_gate c fault g ≡ false
    → (pair_set_rules fault).stem (first_gate_net c + g) v ≡ v
unfolding forced
free_stem c None g v h = refl
free_stem c (Some f) g v h =
    cond-false (is_stem f.site (first_gate_net c + g)) (stuck_set f.value v) v (no_stem c f.site g h)

free_pins : (c : Netlist) (fault : Option Fault) (g : ℕ) → is_stuck_gate c fault g ≡ false
    → is_at_gate fault g ≡ false
free_pins c None g h = refl
free_pins c (Some f) g h = no_pins c f.site g h

free_gate : (c : Netlist) (fault : Option Fault) (g : ℕ) (env : ℕ → List Pair) → is_stuck_gate c fault g ≡ false
    → (pair_set_rules fault).stem (first_gate_net c + g) (gate_output c (pair_set_rules fault) env g)
    ≡ lifted_set (gate_at c g).kind (values_at env (gate_at c g).args)
unfolding gate_output
free_gate c fault g env h =
    free_stem c fault g (gate_output c (pair_set_rules fault) env g) h
    ∙ ap (lifted_set (gate_at c g).kind)
    (plain_pins (pair Unk Unk ∷ []) lifted_set stuck_set fault g env 0 (gate_at c g).args (free_pins c fault g h))

-- The gates that two faults are at were made pending.
pub fault_changed : (c : Netlist) (s : Schedule) (before after : Option Fault) (pending once touched : List Bool)
    → ((g : ℕ) → g < length c.gates → is_stuck_gate c before g ≡ true → get_or once (gate_rank c s g) false ≡ true)
    → ((r : ℕ) → get_or pending r false ≡ true → get_or once r false ≡ true)
    → ((g : ℕ) → g < length c.gates → is_stuck_gate c after g ≡ true
    → get_or touched (gate_rank c s g) false ≡ true)
    → ((r : ℕ) → get_or once r false ≡ true → get_or touched r false ≡ true)
    → length touched ≡ length pending → (values : List (List Pair)) → AreQuietSettled c s before pending values
    → AreQuietSettled c s after touched values
fault_changed c s before after pending once touched first more second most marks values quiet = record {
  schedule = quiet.schedule;
  sets = quiet.sets;
  marks = marks ∙ quiet.marks;
  each = λ g inside idle.
      let r = gate_rank c s g in
      let still = was_off (get_or once r false) (get_or touched r false) (most r) idle in
      let old = was_off (is_stuck_gate c before g) (get_or once r false) (first g inside) still in
      let new = was_off (is_stuck_gate c after g) (get_or touched r false) (second g inside) idle in
      quiet.each g inside (was_off (get_or pending r false) (get_or once r false) (more r) still)
      ∙ (free_gate c before g (sets_of values) old ∙ sym (free_gate c after g (sets_of values) new));
}
