-- Which nets hold what their drivers give them, as cells change.
use Rattle.std.proofs.Common.{◌≡◌, ◌≢◌, ◌<◌, ◌≤◌, ◌+◌, ◌-◌, ◌⊎◌, inl, inr, ℕ, suc, zero, List, Bool, true, length, get_or, set, refl, sym, ◌∙◌, ap, arith, subst}
use Rattle.ht_pairs.specs.Pairs.{Pair}
use Rattle.ht_net.specs.Circuit.Netlist.{net_count, first_gate_net, arg_at, no_net}
use Rattle.ht_net.specs.Frames.Frame.{net_value_over}
use Rattle.ht_net.proofs.ValueLaws.{taken_get}
use Rattle.ht_events.specs.Items.{item_at, IsReader}
use Rattle.ht_tree.specs.declared.token.Assign3.{Assign3}
use Rattle.ht_tree.specs.Window.Windows.{SearchWindow, IsWindow, pair_set_rules, frame_inputs}
use Rattle.ht_relevant.specs.Relevant.{IsClosedBack}
use Rattle.ht_relevant.proofs.PartWindowLaws.{latches_by, part_cells, part_holds}
use Rattle.ht_window.specs.Cells.{cell_index, cell_count, env_at, blank, latches_over, value_over, HoldsValue, AreCells}
use Rattle.ht_window.proofs.PlaceLaws.{written, unwritten, this_or_other}
use Rattle.ht_window.proofs.ReaderLaws.{over_same, gate_reads, dff_reads, not_self}

module _ (w : SearchWindow) (valid : IsWindow w) (path : List Assign3) where
  module _ (values : List (List Pair)) (count : length values ≡ cell_count w) (f x : ℕ) (v : List Pair)
      (fs : f < w.frames) (xs : x < net_count w.circuit) where
    latches_same : (g j : ℕ) → j < length w.circuit.dffs → g < w.frames
        → ¬ IsReader w.circuit w.frames f x (item_at w.circuit g j)
        → get_or (latches_over w path values g) j blank
        ≡ get_or (latches_over w path (set values (cell_index w f x) v) g) j
        blank
    unfolding latches_over
    latches_same zero j js gs free = refl
    latches_same (suc g) j js gs free =
        let d = (get_or w.circuit.dffs j no_net).0 in
        let new = set values (cell_index w f x) v in
        let r = pair_set_rules w.fault in
        taken_get r (env_at w values g) 0 w.circuit.dffs j blank js
        ∙ (ap (r.data_pin (0 + j)) (elim (this_or_other w values count f x v fs xs g d) [
          | inl same ↦ absurd (free (dff_reads w.circuit w.frames f x g j js gs same.0 same.1))
          | inr ne ↦ sym (unwritten w values count f x v fs xs g d (valid.circuit.data_known j js) ne)
        ])
        ∙ sym (taken_get r (env_at w new g) 0 w.circuit.dffs j blank js))

    -- a net that doesn't read the cell that is written gets what it got
    pub unread : (g y : ℕ) → g < w.frames → y < net_count w.circuit
        → (w.circuit.inputs ≤ y → ¬ IsReader w.circuit w.frames f x (item_at w.circuit g (y - w.circuit.inputs)))
        → value_over w path values g y ≡ value_over w path (set values (cell_index w f x) v) g y
    unread g y gs ys free =
        let c = w.circuit in
        let r = pair_set_rules w.fault in
        let new = set values (cell_index w f x) v in
        over_same c r (frame_inputs w path g) (frame_inputs w path g) (latches_over w path values g)
        (latches_over w path new g) (env_at w values g) (env_at w new g) y
        (λ l. refl)
        (λ at low. latches_same g (y - c.inputs) (omega (arith, at, low)) gs (free at))
        (λ j at pin. elim (this_or_other w values count f x v fs xs g (arg_at c (y - first_gate_net c) j)) [
          | inl same ↦ absurd (free (omega (arith, at)) (gate_reads c w.frames f x g y j at ys gs pin same.0 same.1))
          | inr ne ↦ sym (unwritten w values count f x v fs xs g (arg_at c (y - first_gate_net c) j)
              (valid.circuit.known (y - first_gate_net c) j (omega (arith, at, ys)) pin) ne)
        ])

    -- after the write of a cell, each other net that held what it gets and doesn't read that cell still does
    pub others_hold : (g y : ℕ) → g < w.frames → y < net_count w.circuit
        → (w.circuit.inputs ≤ y → ¬ IsReader w.circuit w.frames f x (item_at w.circuit g (y - w.circuit.inputs)))
        → (g ≢ f) ⊎ (y ≢ x) → HoldsValue w path values g y → HoldsValue w path (set values (cell_index w f x) v) g y
    others_hold g y gs ys free ne h = unwritten w values count f x v fs xs g y ys ne ∙ (h ∙ unread g y gs ys free)

    -- a net whose cell is written with what it gets holds what it gets
    pub self_holds : v ≡ value_over w path values f x → HoldsValue w path (set values (cell_index w f x) v) f x
    self_holds is = written w values count f x v fs xs ∙
        (is ∙ unread f x fs xs (λ at. not_self w.circuit valid.circuit w.frames f x at xs))

    -- a write of what stood there
    pub same_holds : (g y : ℕ) → y < net_count w.circuit → (g ≡ f) × (y ≡ x) → v ≡ value_over w path values f x
        → HoldsValue w path (set values (cell_index w f x) v) g y
    same_holds g y ys same is = subst (λ (h : ℕ). HoldsValue w path (set values (cell_index w f x) v) h y) (sym same.0)
        (subst (λ (z : ℕ). HoldsValue w path (set values (cell_index w f x) v) f z) (sym same.1) (self_holds is))

  -- the latches of a frame as the laws of parts have them
  latches_are : (values : List (List Pair)) (f : ℕ) → latches_over w path values f ≡ latches_by w path (env_at w values) f
  unfolding latches_over
  latches_are values zero = refl
  latches_are values (suc f) = refl

  module _ (is : ℕ → ℕ → Bool) (closed : IsClosedBack w.circuit w.frames is) where
    -- where the cell of each of these nets is that of the decisions, each of them holds what it gets
    pub cells_hold : (values : List (List Pair)) → AreCells w is path values → (f x : ℕ) → f < w.frames
        → x < net_count w.circuit → is f x ≡ true → HoldsValue w path values f x
    cells_hold values are f x fs xs m =
        part_holds w valid path (env_at w values) is closed are.cells f x fs xs m
        ∙ sym (ap (λ (L : List (List Pair)). net_value_over w.circuit (pair_set_rules w.fault) (frame_inputs w path f) L
        (env_at w values f) x) (latches_are values f))

    -- and where each of them holds what it gets, its cell is that of the decisions
    pub holds_cells : (values : List (List Pair))
        → ((f x : ℕ) → f < w.frames → x < net_count w.circuit → is f x ≡ true → HoldsValue w path values f x)
        → AreCells w is path values
    holds_cells values h = record {
      cells = part_cells w valid path (env_at w values) is closed
          (λ f x fs xs m. h f x fs xs m ∙ ap (λ (L : List (List Pair)). net_value_over w.circuit (pair_set_rules w.fault)
          (frame_inputs w path f) L (env_at w values f) x) (latches_are values f));
    }
