-- A part of a frame that is closed back settles to the values of the whole frame.
use Rattle.std.proofs.Common.{◌≡◌, ◌∙◌, ◌<◌, ◌≤◌, ◌+◌, ◌-◌, ℕ, suc, zero, List, Bool, true, length, get_or, sym, ap, inl, inr, arith, subst}
use Rattle.ht_net.specs.Circuit.Netlist.{Netlist, IsCircuit, first_gate_net, net_count, gate_at, arg_at}
use Rattle.ht_net.specs.Frames.Frame.{Rules, net_value_over, net_value_within, net_value}
use Rattle.ht_net.proofs.Depth.{IsDepth}
use Rattle.ht_net.proofs.DepthLaws.{circuit_depth}
use Rattle.ht_net.proofs.FrameLaws.{le_or_lt, driven_input, driven_latch, driven_gate, gate_same}

-- two evaluations of a net that read the same there
pub over_alike : {V : Type 0} → (c : Netlist) (r : Rules V) (I L M : List V) (e g : ℕ → V) (x : ℕ)
    → (c.inputs ≤ x → x < first_gate_net c → get_or L (x - c.inputs) r.blank ≡ get_or M (x - c.inputs) r.blank)
    → ((j : ℕ) → first_gate_net c ≤ x → j < length (gate_at c (x - first_gate_net c)).args
    → e (arg_at c (x - first_gate_net c) j) ≡ g (arg_at c (x - first_gate_net c) j))
    → net_value_over c r I L e x ≡ net_value_over c r I M g x
unfolding net_value_over
over_alike c r I L M e g x latches args =
    ap (r.stem x) (elim (le_or_lt (first_gate_net c) x) [
      | inl at ↦ driven_gate c r I L e x at ∙
          (gate_same c r e g (x - first_gate_net c) (λ j l. args j at l) ∙ sym (driven_gate c r I M g x at))
      | inr low ↦ elim (le_or_lt c.inputs x) [
        | inl at ↦ driven_latch c r I L e x at low ∙ (latches at low ∙ sym (driven_latch c r I M g x at low))
        | inr l ↦ driven_input c r I L e x l ∙ sym (driven_input c r I M g x l)
      ]
    ])

-- Some nets of a frame with all that their gates read, and two lists of latches that agree at these.
module _ {V : Type 0} (c : Netlist) (circuit : IsCircuit c) (r : Rules V) (I L M : List V) (e : ℕ → V)
    (is : ℕ → Bool)
    (closed : (g i : ℕ) → g < length c.gates → i < length (gate_at c g).args → is (first_gate_net c + g) ≡ true
    → is (arg_at c g i) ≡ true)
    (latches : (j : ℕ) → j < length c.dffs → is (c.inputs + j) ≡ true → get_or L j r.blank ≡ get_or M j r.blank)
    (settled : (x : ℕ) → x < net_count c → is x ≡ true → e x ≡ net_value_over c r I L e x) where
  latch_same : (x : ℕ) → is x ≡ true → c.inputs ≤ x → x < first_gate_net c
      → get_or L (x - c.inputs) r.blank ≡ get_or M (x - c.inputs) r.blank
  latch_same x h at low =
      let back : c.inputs + (x - c.inputs) ≡ x = omega (arith, at) in
      latches (x - c.inputs) (omega (arith, at, low)) (subst (λ (n : ℕ). is n ≡ true) (sym back) h)

  part_within : (depth : ℕ → ℕ) → IsDepth c depth → (k x : ℕ) → x < net_count c → is x ≡ true → depth x < k
      → e x ≡ net_value_within k c r I M x
  unfolding net_value_within
  part_within depth deep zero x xs h low = absurd (omega (arith, low))
  part_within depth deep (suc k) x xs h low =
      settled x xs h ∙ over_alike c r I L M e (net_value_within k c r I M) x (latch_same x h)
      (λ j at l.
      let g = x - first_gate_net c in
      let back : first_gate_net c + g ≡ x = omega (arith, at) in
      let gs : g < length c.gates = omega (arith, at, xs) in
      let falls = deep.falls g j gs l in
      let same = ap depth back in
      part_within depth deep k (arg_at c g j) (circuit.known g j gs l)
      (closed g j gs l (subst (λ (n : ℕ). is n ≡ true) (sym back) h)) (omega (arith, falls, same, low)))

  -- each of these nets has the value of the frame
  pub part_is_frame : (x : ℕ) → x < net_count c → is x ≡ true → e x ≡ net_value c r I M x
  unfolding net_value
  part_is_frame x xs h =
      let depth = circuit_depth c circuit in
      let small = depth.1.small x xs in
      part_within depth.0 depth.1 (suc (length c.gates)) x xs h (omega (arith, small))
