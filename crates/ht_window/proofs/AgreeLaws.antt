-- Items that agree, and nets that hold.
use Rattle.std.proofs.Common.{◌≡◌, ◌≢◌, ◌<◌, ◌≤◌, ◌-◌, inl, inr, ℕ, List, Option, true, length, set, refl, sym, ◌∙◌, ap, arith, subst}
use Rattle.ht_pairs.specs.Pairs.{Pair}
use Rattle.ht_net.specs.Circuit.Netlist.{Netlist, net_count}
use Rattle.ht_net.proofs.FrameLaws.{le_or_lt}
use Rattle.ht_trail.specs.Trails.{IsLater}
use Rattle.ht_events.specs.Items.{frame_items, item_count, item_at, frame_of, local_of, driven_net, IsReader, IsLoad}
use Rattle.ht_events.proofs.ItemLaws.{item_inside, reader_loads}
use Rattle.ht_tree.specs.declared.token.Assign3.{Assign3}
use Rattle.ht_tree.specs.Window.Windows.{SearchWindow, IsWindow, pair_set_rules, frame_inputs}
use Rattle.ht_window.specs.Standing.{Standing}
use Rattle.ht_window.specs.Cells.{cell_index, cell_count, env_at, latches_over, value_over, HoldsValue, AreCells}
use Rattle.ht_relevant.specs.Near.{RelevantState}
use Rattle.ht_relevant.specs.Relevant.{IsClosedBack}
use Rattle.ht_window.specs.Matters.{is_relevant}
use Rattle.ht_window.specs.Holding.{HeldState, MayHold, item_agrees, KeepsHeld}
use Rattle.ht_window.proofs.PlaceLaws.{unwritten, this_or_other}
use Rattle.ht_window.proofs.ReaderLaws.{over_same}
use Rattle.ht_window.proofs.ItemNetLaws.{item_net, agrees_net, net_agrees}
use Rattle.ht_window.proofs.HoldLaws.{others_hold, self_holds, same_holds, holds_cells}

pub record IsRecomputed (a b : HeldState) (item : ℕ) : Type 0 where
  pub keeps : KeepsHeld a b
  pub agrees : item_agrees b item
  pub others : (y : ℕ) → y < item_count a.standing.window.circuit a.standing.window.frames
      → ¬ IsLoad a.standing.window.circuit a.standing.window.frames item y → item_agrees a y → item_agrees b y

module _ (a b : HeldState) (valid : IsWindow a.standing.window)
    (count : length a.cells.values ≡ cell_count a.standing.window)
    (f l x : ℕ) (v : List Pair) (fs : f < a.standing.window.frames) (ls : l < frame_items a.standing.window.circuit)
    (xe : x ≡ driven_net a.standing.window.circuit l)
    (value : v ≡ value_over a.standing.window a.standing.path a.cells.values f x)
    (same : b.standing ≡ a.standing) (kept : b.relevant ≡ a.relevant)
    (now : b.cells.values ≡ set a.cells.values (cell_index a.standing.window f x) v) where
  -- the item that drives the net
  abbrev item : ℕ
  item = item_at a.standing.window.circuit f l

  xs : x < net_count a.standing.window.circuit
  xs = omega (arith, xe, ls)

  move : (g y : ℕ) → HoldsValue a.standing.window a.standing.path (set a.cells.values
      (cell_index a.standing.window f x) v) g
      y
      → HoldsValue b.standing.window b.standing.path b.cells.values g y
  move g y h = subst (λ (s : Standing). HoldsValue s.window s.path b.cells.values g y) (sym same)
      (subst (λ (t : List (List Pair)). HoldsValue a.standing.window a.standing.path t g y) (sym now) h)

  agrees_self : item_agrees b item
  agrees_self =
      let c : Netlist = b.standing.window.circuit in
      let e : a.standing.window.circuit ≡ c = ap (λ (s : Standing). s.window.circuit) (sym same) in
      subst (λ (n : Netlist). item_agrees b (item_at n f l)) (sym e)
      (net_agrees b f l x (subst (λ (n : Netlist). l < frame_items n) e ls)
      (subst (λ (n : Netlist). x ≡ driven_net n l) e xe)
      (λ m. move f x (self_holds a.standing.window valid a.standing.path a.cells.values count f x v fs xs value)))

  -- a net that matters in b matters in a
  mattered : (g y : ℕ) → is_relevant b.relevant g y ≡ true → is_relevant a.relevant g y ≡ true
  mattered g y m = sym (ap (λ (o : Option RelevantState). is_relevant o g y) kept) ∙ m

  agrees_others : (y : ℕ) → y < item_count a.standing.window.circuit a.standing.window.frames
      → ¬ IsLoad a.standing.window.circuit a.standing.window.frames item y → item_agrees a y → item_agrees b y
  agrees_others y known free agree =
      let w = a.standing.window in
      let c = w.circuit in
      let g = frame_of c y in
      let z = driven_net c (local_of c y) in
      let n = item_net c w.frames y known in
      subst (λ (s : Standing). MayHold b (frame_of s.window.circuit y)
      (driven_net s.window.circuit (local_of s.window.circuit y))) (sym same)
      (λ m. move g z (elim (this_or_other w a.cells.values count f x v fs xs g z) [
        | inl e ↦ same_holds w valid a.standing.path a.cells.values count f x v fs xs g z n.net e value
        | inr ne ↦ others_hold w valid a.standing.path a.cells.values count f x v fs xs g z n.frame n.net
            (λ at r. free (reader_loads c w.frames f l y ls (subst (λ (i : ℕ). IsReader c w.frames f (driven_net c l) i)
            n.is (subst (λ (n : ℕ). IsReader c w.frames f n (item_at c g (z - c.inputs))) xe r)))) ne
            (agree (mattered g z m))
      ]))

  kept_set : IsLater a.cells b.cells → KeepsHeld a b
  kept_set later = record {
    standing = same;
    relevant = kept;
    later = later;
    inputs = λ g i gs is.
        let w = a.standing.window in
        let low : i ≢ x = (λ e. let xl = xe in omega (arith, e, xl, is)) in
        ap (λ (t : List (List Pair)). env_at w t g i) now ∙ unwritten w a.cells.values count f x v fs xs g i
        (omega (arith, is)) (inr low);
  }

  -- what the write of an item's value leaves
  pub recomputed : IsLater a.cells b.cells → IsRecomputed a b item
  recomputed later = record { keeps = kept_set later; agrees = agrees_self; others = agrees_others }

-- what an input holds doesn't rest on other cells
pub input_over : (w : SearchWindow) (path : List Assign3) (values more : List (List Pair)) (g i : ℕ)
    → i < w.circuit.inputs → value_over w path values g i ≡ value_over w path more g i
input_over w path values more g i is =
    over_same w.circuit (pair_set_rules w.fault) (frame_inputs w path g) (frame_inputs w path g)
    (latches_over w path values g) (latches_over w path more g) (env_at w values g) (env_at w more g) i
    (λ l. refl) (λ at low. absurd (omega (arith, at, is))) (λ j at pin. absurd (omega (arith, at, is)))

-- where the inputs hold what they get and then all items agree, every cell is that of the decisions
pub settled_cells : (a b : HeldState) → IsWindow a.standing.window
    → IsClosedBack a.standing.window.circuit a.standing.window.frames (is_relevant a.relevant)
    → KeepsHeld a b
    → ((f i : ℕ) → f < a.standing.window.frames → i < a.standing.window.circuit.inputs → MayHold a f i)
    → ((y : ℕ) → y < item_count a.standing.window.circuit a.standing.window.frames → item_agrees b y)
    → AreCells a.standing.window (is_relevant a.relevant) a.standing.path b.cells.values
settled_cells a b valid closed kept inputs agree = holds_cells w valid a.standing.path
    (is_relevant a.relevant) closed b.cells.values
    (λ f x fs xs m. elim (le_or_lt w.circuit.inputs x) [
      | inl at ↦ subst (λ (s : Standing). HoldsValue s.window s.path b.cells.values f x) kept.standing
          (item f x at xs fs
          (ap (λ (o : Option RelevantState). is_relevant o f x) kept.relevant ∙ m))
      | inr low ↦ kept.inputs f x fs low ∙
          (inputs f x fs low m ∙ input_over w a.standing.path a.cells.values b.cells.values f x low)
    ]) where
      w : SearchWindow
      w = a.standing.window

      item : (f x : ℕ) → a.standing.window.circuit.inputs ≤ x → x < net_count a.standing.window.circuit
          → f < a.standing.window.frames → MayHold b f x
      item f x at xs fs =
          let c = a.standing.window.circuit in
          let e = ap (λ (s : Standing). s.window.circuit) kept.standing in
          agrees_net b f x (subst (λ (n : Netlist). n.inputs ≤ x) (sym e) at)
          (subst (λ (n : Netlist). x < net_count n) (sym e) xs)
          (subst (λ (n : Netlist). item_agrees b (item_at n f (x - n.inputs))) (sym e)
          (agree (item_at c f (x - c.inputs))
          (item_inside c a.standing.window.frames f (x - c.inputs) fs (omega (arith, at, xs)))))
