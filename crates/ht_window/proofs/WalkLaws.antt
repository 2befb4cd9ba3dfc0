-- The walk back, gate by gate and frame by frame.
use Rattle.std.proofs.Common.{◌≡◌, ◌<◌, ◌≤◌, ◌+◌, ◌-◌, ◌∷◌, [], ◌∙◌, ℕ, suc, zero, List, Bool, true, false, cond, length, get_or, refl, ap, sym, arith}
use Rattle.std.specs.Prelude.{ltb}
use Rattle.std.proofs.lemmas.Bool.{cond-false, cond-true, le-ltb, lt-ltb}
use Rattle.ht_pairs.specs.Pairs.{Pair}
use Rattle.ht_net.specs.declared.net.NetId.{NetId}
use Rattle.ht_net.specs.Circuit.Netlist.{Netlist, IsCircuit, first_gate_net, net_count, gate_at, no_net}
use Rattle.ht_net.specs.Frames.Frame.{Rules}
use Rattle.ht_net.proofs.DepthLaws.{circuit_depth}
use Rattle.ht_tree.specs.declared.token.Assign3.{Assign3}
use Rattle.ht_tree.specs.declared.window.Spot.TheVariants.{State}
use Rattle.ht_tree.specs.declared.token.Choice.TheVariants.{Two}
use Rattle.ht_tree.specs.Window.Windows.{SearchWindow, first_input, cell_at, is_undetermined}
use Rattle.ht_tree.specs.Window.Places.{spot_net}
use Rattle.ht_tree.specs.Window.WalkBack.{Wanted, undetermined_argument, bit_before, back_over, end_in_frame, latch_choice, choice_at}
use Rattle.ht_relevant.specs.Relevant.{IsClosedBack}
use Rattle.ht_tree.proofs.ChoiceLaws.{ends_undetermined, latch_undetermined, before_undetermined}

-- within a frame
pub back_step : (c : Netlist) (r : Rules (List Pair)) (env : ℕ → List Pair) (k : ℕ) (at next : Wanted) → 0 < k
    → first_gate_net c ≤ at.net
    → next ≡ record {
      net = undetermined_argument r (at.net - first_gate_net c) env 0
          (gate_at c (at.net - first_gate_net c)).args;
      bit = bit_before (gate_at c (at.net - first_gate_net c)).kind
          at.bit;
    }
    → back_over c r env (k - 1) next ≡ back_over c r env k at
unfolding back_over
back_step c r env zero at next some high is = absurd (omega arith)
back_step c r env (suc k) at next some high is =
    let e : suc k - 1 ≡ k = omega arith in
    ap (λ (n : ℕ). back_over c r env n next) e ∙
    (ap (back_over c r env k) is ∙ sym
    (cond-false (ltb at.net (first_gate_net c)) at _ (le-ltb at.net (first_gate_net c) high)))

-- over no gates the walk back stays where it is
pub back_none : (c : Netlist) (r : Rules (List Pair)) (env : ℕ → List Pair) (k : ℕ) (at : Wanted) → k ≡ 0
    → back_over c r env k at ≡ at
unfolding back_over
back_none c r env zero at e = refl
back_none c r env (suc k) at e = absurd (omega (arith, e))

-- at an input or a latch the walk back within a frame stays
pub back_low : (c : Netlist) (r : Rules (List Pair)) (env : ℕ → List Pair) (k : ℕ) (at : Wanted)
    → at.net < first_gate_net c → back_over c r env k at ≡ at
unfolding back_over
back_low c r env zero at low = refl
back_low c r env (suc k) at low = cond-true (ltb at.net (first_gate_net c)) at _ (lt-ltb at.net (first_gate_net c) low)

-- an argument, or net 0, is a net
argument_in : (r : Rules (List Pair)) (g : ℕ) (env : ℕ → List Pair) (i : ℕ) (args : List NetId) (n : ℕ) → 0 < n
    → ((j : ℕ) → j < length args → (get_or args j no_net).0 < n) → undetermined_argument r g env i args < n
argument_in r g env i [] n some h = some
argument_in r g env i (a ∷ args) n some h = either (is_undetermined (r.pin g i (env a.0))) (h 0 (omega arith))
    (argument_in r g env (i + 1) args n some (λ j l. h (suc j) (omega (arith, l))))
  where
    either : (b : Bool) {x y m : ℕ} → x < m → y < m → cond b x y < m
    either true h k = h
    either false h k = k

-- the first undetermined argument of a gate, or net 0 where it has none, is a net of the circuit
pub undetermined_argument_known : (c : Netlist) (r : Rules (List Pair)) (env : ℕ → List Pair) (g : ℕ) → IsCircuit c
    → g < length c.gates → undetermined_argument r g env 0 (gate_at c g).args < net_count c
undetermined_argument_known c r env g circuit inside = argument_in r g env 0 (gate_at c g).args (net_count c)
    (omega arith)
    (λ j l. circuit.known g j inside l)

-- across frames
module _ (w : SearchWindow) (path : List Assign3) (circuit : IsCircuit w.circuit) where
  -- from an undetermined net the walk back within a frame ends at an input or a latch
  pub ends_low : (f : ℕ) (at : Wanted) → at.net < net_count w.circuit → 1 < length (cell_at w path f at.net)
      → (end_in_frame w path f at).net < first_gate_net w.circuit
  ends_low f at known h = let d = circuit_depth w.circuit circuit in
      (ends_undetermined w path circuit d.0 d.1 f at known h).low

  -- from an undetermined net the walk back within a frame ends at an undetermined net
  pub ends_undetermined_at : (f : ℕ) (at : Wanted) → at.net < net_count w.circuit → 1 < length (cell_at w path f at.net)
      → 1 < length (cell_at w path f (end_in_frame w path f at).net)
  ends_undetermined_at f at known h = let d = circuit_depth w.circuit circuit
      in (ends_undetermined w path circuit d.0 d.1 f at known h).undetermined

  -- at an input the choice is its variable, with the wanted bit first
  pub choice_input : (f : ℕ) (at : Wanted) → at.net < w.circuit.inputs → choice_at w path f at
      ≡ Two (first_input w f + at.net) at.bit
  unfolding choice_at
  choice_input zero at low = cond-true (ltb at.net w.circuit.inputs) _ _ (lt-ltb at.net w.circuit.inputs low)
  choice_input (suc f) at low = cond-true (ltb at.net w.circuit.inputs) _ _ (lt-ltb at.net w.circuit.inputs low)

  -- at a latch of the first frame the choice is the one of the start
  pub choice_latch : (f : ℕ) (at : Wanted) → f ≡ 0 → w.circuit.inputs ≤ at.net → choice_at w path f at
      ≡ latch_choice w path w.start at
  unfolding choice_at
  choice_latch zero at e high = cond-false (ltb at.net w.circuit.inputs) _ _ (le-ltb at.net w.circuit.inputs high)
  choice_latch (suc f) at e high = absurd (omega (arith, e))

  -- one frame back
  pub choice_back : (f : ℕ) (at : Wanted) → 0 < f → w.circuit.inputs ≤ at.net
      → choice_at w path (f - 1)
      (end_in_frame w path (f - 1)
      (record { net = spot_net w.circuit (State (at.net - w.circuit.inputs)); bit = at.bit }))
      ≡ choice_at w path f at
  unfolding choice_at
  choice_back zero at some high = absurd (omega arith)
  choice_back (suc f) at some high =
      let e : suc f - 1 ≡ f = omega arith in
      ap (λ (n : ℕ). choice_at w path n
      (end_in_frame w path n
      (record { net = spot_net w.circuit (State (at.net - w.circuit.inputs)); bit = at.bit }))) e
      ∙ sym (cond-false (ltb at.net w.circuit.inputs) _ _ (le-ltb at.net w.circuit.inputs high))

  -- a data net matters one frame before its latch
  pub data_matters : (is : ℕ → ℕ → Bool) → IsClosedBack w.circuit w.frames is → (f x : ℕ) → f < w.frames → 0 < f
      → w.circuit.inputs ≤ x → x < first_gate_net w.circuit → is f x ≡ true
      → is (f - 1) (spot_net w.circuit (State (x - w.circuit.inputs))) ≡ true
  data_matters is closed zero x fs some high low m = absurd (omega (arith, some))
  data_matters is closed (suc f) x fs some high low m =
      let e : suc f - 1 ≡ f = omega arith in
      let back : w.circuit.inputs + (x - w.circuit.inputs) ≡ x = omega (arith, high) in
      ap (λ (g : ℕ). is g (spot_net w.circuit (State (x - w.circuit.inputs)))) e
      ∙ closed.dffs f (x - w.circuit.inputs) fs (omega (arith, high, low)) (ap (is (suc f)) back ∙ m)

  -- where a latch is undetermined, so is its data net one frame before
  pub data_undetermined : (f x : ℕ) → 0 < f → w.circuit.inputs ≤ x → x < first_gate_net w.circuit
      → 1 < length (cell_at w path f x)
      → 1 < length (cell_at w path (f - 1) (spot_net w.circuit (State (x - w.circuit.inputs))))
  data_undetermined zero x some high low h = absurd (omega arith)
  data_undetermined (suc f) x some high low h =
      let e : suc f - 1 ≡ f = omega arith in
      let d = circuit_depth w.circuit circuit in
      rw e (before_undetermined w path circuit d.0 d.1 f (x - w.circuit.inputs) (omega arith)
      (latch_undetermined w path circuit d.0 d.1 (suc f) x high low h))
