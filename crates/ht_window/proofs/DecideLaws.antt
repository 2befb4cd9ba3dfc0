-- One more decision: which nets and items it reaches.
use Rattle.std.proofs.Common.{◌≡◌, ◌<◌, ◌≤◌, ◌-◌, ◌∙◌, inl, inr, ℕ, List, [], ◌∷◌, ◌++◌, Bool, true, Option, length, set, refl, sym, ap, arith, subst}
use Rattle.ht_pairs.specs.Pairs.{Pair}
use Rattle.ht_net.specs.Circuit.Netlist.{net_count}
use Rattle.ht_events.specs.Items.{item_at, item_count, frame_of, local_of, driven_net, IsReader}
use Rattle.ht_tree.specs.declared.token.Assign3.{Assign3}
use Rattle.ht_tree.specs.Window.Windows.{SearchWindow, IsWindow}
use Rattle.ht_window.specs.Cells.{cell_index, cell_count, value_over, HoldsValue, AreCells, var_frame, var_net}
use Rattle.ht_relevant.specs.Near.{RelevantState}
use Rattle.ht_relevant.specs.Relevant.{IsClosedBack}
use Rattle.ht_window.specs.Matters.{is_relevant}
use Rattle.ht_window.specs.Holding.{HeldState, MayHold, item_agrees}
use Rattle.ht_window.proofs.PlaceLaws.{this_or_other}
use Rattle.ht_window.proofs.HoldLaws.{others_hold, same_holds, cells_hold}
use Rattle.ht_window.proofs.ItemNetLaws.{item_net}
use Rattle.ht_window.proofs.LegalLaws.{legal_frame}
use Rattle.ht_window.proofs.UndecidedLaws.{path_holds}

module _ (w : SearchWindow) (valid : IsWindow w) (is : ℕ → ℕ → Bool) (closed : IsClosedBack w.circuit w.frames is)
    (path : List Assign3) (d : Assign3) where
  -- after the decision and the write of its net, all nets that matter but the readers of that net hold what they get
  pub decided_holds : (values : List (List Pair)) → length values ≡ cell_count w → var_net w d.var < net_count w.circuit
      → AreCells w is path values
      → (g y : ℕ) → g < w.frames → y < net_count w.circuit → is g y ≡ true
      → (w.circuit.inputs ≤ y → ¬ IsReader w.circuit w.frames (var_frame w d.var) (var_net w d.var)
      (item_at w.circuit g (y - w.circuit.inputs)))
      → HoldsValue w (path ++ d ∷ [])
      (set values (cell_index w (var_frame w d.var) (var_net w d.var))
      (value_over w (path ++ d ∷ []) values (var_frame w d.var) (var_net w d.var))) g y
  decided_holds values count xs are g y gs ys m free =
      let f = var_frame w d.var in
      let x = var_net w d.var in
      let more = path ++ d ∷ [] in
      let v = value_over w more values f x in
      let fs = legal_frame w valid d.var in
      elim (this_or_other w values count f x v fs xs g y) [
        | inl e ↦ same_holds w valid more values count f x v fs xs g y ys e refl
        | inr ne ↦ others_hold w valid more values count f x v fs xs g y gs ys free ne
            (path_holds w valid path d values g y gs ys ne (cells_hold w valid path is closed values are g y gs ys m))
      ]

module _ (w : SearchWindow) (valid : IsWindow w) (relevant : Option RelevantState)
    (closed : IsClosedBack w.circuit w.frames (is_relevant relevant)) (path : List Assign3) (d : Assign3)
    (values : List (List Pair)) (count : length values ≡ cell_count w)
    (xs : var_net w d.var < net_count w.circuit) (are : AreCells w (is_relevant relevant) path values)
    (b : HeldState) (same : b.standing.window ≡ w) (kept : b.relevant ≡ relevant) (more : b.standing.path ≡ path ++ d ∷ [])
    (now : b.cells.values ≡ set values (cell_index w (var_frame w d.var) (var_net w d.var))
    (value_over w (path ++ d ∷ []) values (var_frame w d.var) (var_net w d.var))) where
  move_held : (g y : ℕ)
      → HoldsValue w (path ++ d ∷ [])
      (set values (cell_index w (var_frame w d.var) (var_net w d.var))
      (value_over w (path ++ d ∷ []) values (var_frame w d.var) (var_net w d.var))) g y
      → HoldsValue b.standing.window b.standing.path b.cells.values g y
  move_held g y h =
      subst (λ (v : SearchWindow). HoldsValue v b.standing.path b.cells.values g y) (sym same)
      (subst (λ (p : List Assign3). HoldsValue w p b.cells.values g y) (sym more)
      (subst (λ (t : List (List Pair)). HoldsValue w (path ++ d ∷ []) t g y) (sym now) h))

  mattered : (g y : ℕ) → is_relevant b.relevant g y ≡ true
      → is_relevant relevant g y ≡ true
  mattered g y m = sym (ap (λ (o : Option RelevantState). is_relevant o g y) kept) ∙ m

  -- after a decision and the write of its net, each item that doesn't read that net agrees
  pub decided_agrees : (y : ℕ) → y < item_count w.circuit w.frames → ¬ IsReader w.circuit w.frames (var_frame w d.var)
      (var_net w d.var) y → item_agrees b y
  decided_agrees y known free =
      let c = w.circuit in
      let g = frame_of c y in
      let z = driven_net c (local_of c y) in
      let n = item_net c w.frames y known in
      subst (λ (v : SearchWindow). MayHold b (frame_of v.circuit y) (driven_net v.circuit (local_of v.circuit y)))
      (sym same)
      (λ m. move_held g z (decided_holds w valid (is_relevant relevant) closed path d values count xs are g z
      n.frame n.net (mattered g z m)
      (λ at r. free (subst (λ (i : ℕ). IsReader c w.frames (var_frame w d.var) (var_net w d.var) i) n.is r))))

  -- after a decision and the write of its net, each input that matters holds what it gets
  pub decided_inputs : (g i : ℕ) → g < b.standing.window.frames → i < b.standing.window.circuit.inputs
      → MayHold b g i
  decided_inputs g i gs is m =
      let low : i < w.circuit.inputs = subst (λ (v : SearchWindow). i < v.circuit.inputs) same is in
      move_held g i (decided_holds w valid (is_relevant relevant) closed path d values count xs are g i
      (subst (λ (v : SearchWindow). g < v.frames) same gs) (omega (arith, low)) (mattered g i m)
      (λ at. absurd (omega (arith, at, low))))
