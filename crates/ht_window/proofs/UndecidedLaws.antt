-- Which nets keep what they get as one more decision is made.
use Rattle.std.proofs.Common.{◌≡◌, ◌≢◌, ◌<◌, ◌≤◌, ◌+◌, ◌-◌, ◌⊎◌, inl, inr, ℕ, suc, zero, List, [], ◌∷◌, ◌++◌, map, length, get_or, refl, sym, ◌∙◌, ap, arith}
use Rattle.std.proofs.lemmas.List.FromFn.{get_or-map-range_with_len}
use Rattle.ht_pairs.specs.Pairs.{Pair, pair}
use Rattle.ht_pairs.specs.Decided.{same_pairs}
use Rattle.ht_net.specs.Circuit.Netlist.{net_count, first_gate_net}
use Rattle.ht_tree.specs.declared.token.Assign3.{Assign3}
use Rattle.ht_tree.specs.Window.Decisions.{is_in, latch_pairs, latch_values_left}
use Rattle.ht_tree.specs.Window.Windows.{input_set, SearchWindow, Start, one_frame, unknown, state_pair, back, IsWindow, IsStart, first_input, first_latch, frame_inputs, pair_set_rules}
use Rattle.ht_window.specs.Cells.{env_at, blank, latches_over, HoldsValue, var_frame, var_net}
use Rattle.ht_window.proofs.ReaderLaws.{over_same}
use Rattle.ht_window.proofs.VariableLaws.{decided_other, input_frame, input_net, only_frame, high_frame, good_net, faulty_net}

module _ (w : SearchWindow) (valid : IsWindow w) (path : List Assign3) (d : Assign3) where
  apart_from : (g y : ℕ) → g ≡ var_frame w d.var → y ≡ var_net w d.var → (g ≢ var_frame w d.var) ⊎ (y ≢ var_net w d.var)
      → ⊥
  apart_from g y ge ye (inl n) = n ge
  apart_from g y ge ye (inr n) = n ye

  -- a latch that the decision doesn't reach has other variables
  good_other : (j : ℕ) → first_input w w.frames ≡ w.circuit.inputs → j < length w.circuit.dffs → (0 ≢ var_frame w d.var)
      ⊎ (w.circuit.inputs + j ≢ var_net w d.var) → w.circuit.inputs + j ≢ d.var
  good_other j one js ne e = apart_from 0 (w.circuit.inputs + j) (sym (high_frame w d.var (omega (arith, one, e))))
      (let n = good_net w d.var (omega (arith, one, e)) (omega (arith, e, js)) in omega (arith, n, e)) ne

  faulty_other : (j : ℕ) → first_input w w.frames ≡ w.circuit.inputs → (0 ≢ var_frame w d.var)
      ⊎ (w.circuit.inputs + j ≢ var_net w d.var) → first_gate_net w.circuit + j ≢ d.var
  faulty_other j one ne e = apart_from 0 (w.circuit.inputs + j) (sym (high_frame w d.var (omega (arith, one, e))))
      (let n = faulty_net w d.var (omega (arith, one, e)) (omega (arith, e)) in omega (arith, n, e)) ne

  -- what the start gives a latch that isn't decided stays
  latch_same : (s : Start) (j : ℕ) → IsStart w.circuit w.fault w.frames s → j < length w.circuit.dffs
      → (0 ≢ var_frame w d.var) ⊎ (w.circuit.inputs + j ≢ var_net w d.var)
      → first_latch w s path j ≡ first_latch w s (path ++ d ∷ []) j
  latch_same unknown j st js ne = refl
  latch_same (state_pair good faulty) j st js ne = refl
  latch_same (one_frame z) j st js ne =
      let one = only_frame w st in
      let g = decided_other path d (w.circuit.inputs + j) (good_other j one js ne) in
      let f = decided_other path d (first_gate_net w.circuit + j) (faulty_other j one ne) in
      sym (λ i. latch_pairs (is_in z j) (g i) (f i))
  latch_same (back cube limit) j st js ne =
      let g = decided_other path d (w.circuit.inputs + j) (good_other j (only_frame w st.0) js ne) in
      sym (λ i. map (λ v. pair v v) (latch_values_left (g i)))

  input_same : (g i : ℕ) → g < w.frames → i < w.circuit.inputs → (g ≢ var_frame w d.var) ⊎ (i ≢ var_net w d.var)
      → get_or (frame_inputs w path g) i blank ≡ get_or (frame_inputs w (path ++ d ∷ []) g) i blank
  input_same g i gs is ne =
      input_at path ∙ (sym (ap same_pairs (decided_other path d (first_input w g + i) (other ne)))
      ∙ sym (input_at (path ++ d ∷ []))) where
        input_at : (p : List Assign3) → get_or (frame_inputs w p g) i blank ≡ input_set p (first_input w g + i)
        input_at p = get_or-map-range_with_len (input_set p) (first_input w g) w.circuit.inputs i (first_input w g + i)
            blank is refl

        other : (g ≢ var_frame w d.var) ⊎ (i ≢ var_net w d.var) → first_input w g + i ≢ d.var
        other (inl n) e = n (sym (input_frame w g i gs is) ∙ ap (var_frame w) e)
        other (inr n) e = n (sym (input_net w g i gs is) ∙ ap (var_net w) e)

  latches_kept : (values : List (List Pair)) (g j : ℕ) → j < length w.circuit.dffs → (g ≢ var_frame w d.var)
      ⊎ (w.circuit.inputs + j ≢ var_net w d.var)
      → get_or (latches_over w path values g) j blank ≡ get_or (latches_over w (path ++ d ∷ []) values g) j blank
  unfolding latches_over
  latches_kept values zero j js ne =
      let at : 0 + j ≡ j = omega arith in
      let n = length w.circuit.dffs in
      get_or-map-range_with_len (first_latch w w.start path) 0 n j j blank js at
      ∙ (latch_same w.start j valid.start js ne
      ∙ sym (get_or-map-range_with_len (first_latch w w.start (path ++ d ∷ [])) 0 n j j blank js at))
  latches_kept values (suc g) j js ne = refl

  -- a net that the variable doesn't drive gets what it got
  pub path_holds : (values : List (List Pair)) (g y : ℕ) → g < w.frames → y < net_count w.circuit
      → (g ≢ var_frame w d.var) ⊎ (y ≢ var_net w d.var)
      → HoldsValue w path values g y → HoldsValue w (path ++ d ∷ []) values g y
  path_holds values g y gs ys ne h =
      let c = w.circuit in
      h ∙ over_same c (pair_set_rules w.fault) (frame_inputs w path g) (frame_inputs w (path ++ d ∷ []) g)
      (latches_over w path values g) (latches_over w (path ++ d ∷ []) values g) (env_at w values g)
      (env_at w values g) y
      (λ l. input_same g y gs l ne)
      (λ at low. latches_kept values g (y - c.inputs) (omega (arith, at, low)) (latch_ne at ne))
      (λ j at pin. refl) where
        latch_ne : w.circuit.inputs ≤ y → (g ≢ var_frame w d.var) ⊎ (y ≢ var_net w d.var) → (g ≢ var_frame w d.var)
            ⊎ (w.circuit.inputs + (y - w.circuit.inputs) ≢ var_net w d.var)
        latch_ne at (inl n) = inl n
        latch_ne at (inr n) = inr (λ e. n (omega (arith, e, at)))
