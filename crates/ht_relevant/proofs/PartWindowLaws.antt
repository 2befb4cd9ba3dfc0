-- A part of a window that is closed back settles to the window's cells, and its places show what the window's show.
use Rattle.std.proofs.Common.{◌≡◌, ◌≢◌, ◌∙◌, ◌<◌, ◌≤◌, ◌+◌, ◌-◌, ℕ, suc, zero, List, [], ◌∷◌, Bool, true, length, get_or, refl, sym, ap, inl, inr, arith, subst}
use Rattle.std.proofs.lemmas.Bool.Decides.{eqb_tells}
use Rattle.ht_tern.specs.declared.tern.Tern.TheVariants.{Unk}
use Rattle.ht_pairs.specs.Pairs.{Pair, pair}
use Rattle.ht_net.specs.Circuit.Netlist.{first_gate_net, net_count, arg_at, no_net}
use Rattle.ht_net.specs.Frames.Frame.{data_values, net_value_over, next_state}
use Rattle.ht_net.proofs.DepthLaws.{circuit_depth}
use Rattle.ht_net.proofs.FrameLaws.{frame_settled}
use Rattle.ht_net.proofs.ValueLaws.{taken_get}
use Rattle.ht_tree.specs.declared.token.Assign3.{Assign3}
use Rattle.ht_tree.specs.Window.Windows.{SearchWindow, IsWindow, cell_at, first_latches, frame_inputs, latches_at, pair_set_rules}
use Rattle.ht_relevant.specs.Relevant.{IsClosedBack}
use Rattle.ht_relevant.proofs.PartLaws.{over_alike, part_is_frame}

-- the latches of a frame, by what the frame before holds
abbrev pub latches_by : SearchWindow → List Assign3 → (ℕ → ℕ → List Pair) → ℕ → List (List Pair)
latches_by w path e zero = first_latches w path
latches_by w path e (suc f) = data_values (pair_set_rules w.fault) (e f) 0 w.circuit.dffs

-- what net x of frame f gets from the decisions and from what its driver reads
abbrev pub gets : SearchWindow → List Assign3 → (ℕ → ℕ → List Pair) → ℕ → ℕ → List Pair
gets w path e f x =
    net_value_over w.circuit (pair_set_rules w.fault) (frame_inputs w path f) (latches_by w path e f) (e f) x

abbrev blank : List Pair
blank = pair Unk Unk ∷ []

module _ (w : SearchWindow) (valid : IsWindow w) (path : List Assign3) (e : ℕ → ℕ → List Pair) (is : ℕ → ℕ → Bool)
    (closed : IsClosedBack w.circuit w.frames is) where
  -- the part's latches are right where the frame before is
  latches_right : (f : ℕ) → f < w.frames
      → ((g : ℕ) → g < f → (x : ℕ) → x < net_count w.circuit → is g x ≡ true → e g x ≡ cell_at w path g x)
      → (j : ℕ) → j < length w.circuit.dffs → is f (w.circuit.inputs + j) ≡ true
      → get_or (latches_by w path e f) j blank ≡ get_or (latches_at w path f) j blank
  unfolding latches_at next_state
  latches_right zero fs before j js h = refl
  latches_right (suc f) fs before j js h =
      let r = pair_set_rules w.fault in
      let d = (get_or w.circuit.dffs j no_net).0 in
      taken_get r (e f) 0 w.circuit.dffs j blank js
      ∙ (ap (r.data_pin (0 + j)) (before f (omega arith) d (valid.circuit.data_known j js) (closed.dffs f j fs js h))
      ∙ sym (taken_get r (cell_at w path f) 0 w.circuit.dffs j blank js))

  -- where each net of the part holds what it gets, it holds its cell
  pub part_cells : ((f x : ℕ) → f < w.frames → x < net_count w.circuit → is f x ≡ true → e f x ≡ gets w path e f x)
      → (f x : ℕ) → f < w.frames → x < net_count w.circuit → is f x ≡ true → e f x ≡ cell_at w path f x
  part_cells holds f x fs xs h = below (suc f) f (omega (arith, fs)) (omega arith) x xs h where
    below : (n g : ℕ) → n ≤ w.frames → g < n → (x : ℕ) → x < net_count w.circuit → is g x ≡ true
        → e g x ≡ cell_at w path g x
    below zero g ns less x xs h = absurd (omega (arith, less))
    below (suc n) g ns less x xs h = elim (eqb_tells g n) [
      | inr p ↦ let ne : g ≢ n = p.1 in below n g (omega (arith, ns)) (omega (arith, less, ne)) x xs h
      | inl p ↦
          let here : n < w.frames = omega (arith, ns) in
          subst (λ (m : ℕ). is m x ≡ true → e m x ≡ cell_at w path m x) (sym p.1)
          (λ k. part_is_frame w.circuit valid.circuit (pair_set_rules w.fault) (frame_inputs w path n)
          (latches_by w path e n) (latches_at w path n) (e n) (is n) (λ g i gs l m. closed.gates n g i here gs l m)
          (λ j js m. latches_right n here (λ m ms y ys. below n m (omega (arith, ns)) ms y ys) j js m)
          (λ y ys m. holds n y here ys m) x xs k) h
    ]

  -- and where each net of the part holds its cell, it holds what it gets
  pub part_holds : ((f x : ℕ) → f < w.frames → x < net_count w.circuit → is f x ≡ true → e f x ≡ cell_at w path f x)
      → (f x : ℕ) → f < w.frames → x < net_count w.circuit → is f x ≡ true → e f x ≡ gets w path e f x
  part_holds right f x fs xs h =
      let c = w.circuit in
      let r = pair_set_rules w.fault in
      let depth = circuit_depth c valid.circuit in
      let I = frame_inputs w path f in
      right f x fs xs h ∙ ((frame_settled c depth.0 depth.1 r I (latches_at w path f)).settled x xs
      ∙ over_alike c r I (latches_at w path f) (latches_by w path e f) (cell_at w path f) (e f) x
      (λ at low.
      let back : c.inputs + (x - c.inputs) ≡ x = omega (arith, at) in
      sym (latches_right f fs (λ g gs y ys. right g y (omega (arith, gs, fs)) ys) (x - c.inputs)
      (omega (arith, at, low))
      (subst (λ (n : ℕ). is f n ≡ true) (sym back) h)))
      (λ j at l.
      let g = x - first_gate_net c in
      let back : first_gate_net c + g ≡ x = omega (arith, at) in
      let gs : g < length c.gates = omega (arith, at, xs) in
      sym (right f (arg_at c g j) fs (valid.circuit.known g j gs l)
      (closed.gates f g j fs gs l (subst (λ (n : ℕ). is f n ≡ true) (sym back) h)))))
