-- The walk back from a net that matters comes to nets that matter.
use Rattle.std.proofs.Common.{◌≡◌, ◌<◌, ◌≤◌, ◌+◌, ◌-◌, ℕ, List, Bool, true, length, sym, inl, inr, arith, subst}
use Rattle.ht_pairs.specs.Pairs.{Pair}
use Rattle.ht_net.specs.Circuit.Netlist.{first_gate_net, net_count, gate_at, arg_at}
use Rattle.ht_net.specs.Frames.Frame.{gate_output, pin_values}
use Rattle.ht_net.specs.Frames.Faults.{is_pin}
use Rattle.ht_net.proofs.DepthLaws.{circuit_depth}
use Rattle.ht_net.proofs.FrameLaws.{driven_gate}
use Rattle.ht_tree.specs.declared.token.Assign3.{Assign3}
use Rattle.ht_tree.specs.Window.Windows.{SearchWindow, IsWindow, cell_at, frame_inputs, latches_at, pair_set_rules}
use Rattle.ht_tree.specs.Window.WalkBack.{undetermined_argument}
use Rattle.ht_tree.proofs.BackLaws.{driver_undetermined}
use Rattle.ht_tree.proofs.UndeterminedLaws.{UndeterminedArgument, forced_undetermined, lifted_few, undetermined_or_few}
use Rattle.ht_relevant.specs.Relevant.{IsClosedBack}

module _ (w : SearchWindow) (valid : IsWindow w) (path : List Assign3) (f : ℕ) where
  -- an undetermined gate has an undetermined argument
  argument_found : (x : ℕ) → x < net_count w.circuit → first_gate_net w.circuit ≤ x → 1 < length (cell_at w path f x)
      → UndeterminedArgument (pair_set_rules w.fault) (x - first_gate_net w.circuit) (cell_at w path f) 0
      (gate_at w.circuit (x - first_gate_net w.circuit)).args
  unfolding gate_output
  argument_found x xs at h =
      let c = w.circuit in
      let r = pair_set_rules w.fault in
      let g = x - first_gate_net c in
      let depth = circuit_depth c valid.circuit in
      let cell = cell_at w path f in
      let e = driven_gate c r (frame_inputs w path f) (latches_at w path f) cell x at in
      let k : 1 < length (gate_output c r cell g) = subst (λ (s : List Pair). 1 < length s) e
      (driver_undetermined c depth.0 depth.1 w.fault (frame_inputs w path f) (latches_at w path f) x xs h) in
      elim (undetermined_or_few r g cell 0 (gate_at c g).args) [
        | inl few ↦ absurd (lifted_few (gate_at c g).kind (pin_values r g cell 0 (gate_at c g).args) few k)
        | inr found ↦ found
      ]

  -- where the gate matters, so does that argument
  pub argument_matters : (is : ℕ → ℕ → Bool) → IsClosedBack w.circuit w.frames is → f < w.frames → (x : ℕ)
      → x < net_count w.circuit → first_gate_net w.circuit ≤ x → is f x ≡ true → 1 < length (cell_at w path f x)
      → (is f (undetermined_argument (pair_set_rules w.fault) (x - first_gate_net w.circuit) (cell_at w path f) 0
      (gate_at w.circuit (x - first_gate_net w.circuit)).args) ≡ true)
      × (1 < length (cell_at w path f (undetermined_argument (pair_set_rules w.fault) (x - first_gate_net w.circuit)
      (cell_at w path f) 0 (gate_at w.circuit (x - first_gate_net w.circuit)).args)))
  argument_matters is closed fs x xs at m h =
      let c = w.circuit in
      let g = x - first_gate_net c in
      let back : first_gate_net c + g ≡ x = omega (arith, at) in
      let found = argument_found x xs at h in (
        subst (λ (n : ℕ). is f n ≡ true) (sym found.is)
            (closed.gates f g found.place fs (omega (arith, at, xs)) found.within
            (subst (λ (n : ℕ). is f n ≡ true) (sym back) m)),
        subst (λ (n : ℕ). 1 < length (cell_at w path f n)) (sym found.is)
            (forced_undetermined w.fault (λ site. is_pin site g (0 + found.place))
            (cell_at w path f (arg_at c g found.place)) found.undetermined_at),
      )
