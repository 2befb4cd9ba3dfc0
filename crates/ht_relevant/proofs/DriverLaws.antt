-- One net is followed to what its driver reads.
use Rattle.std.proofs.Common.{◌≡◌, ◌<◌, ◌≤◌, ◌+◌, ℕ, length, get_or, subst, arith}
use Rattle.std.specs.List.{Contains}
use Rattle.ht_net.specs.Circuit.Netlist.{Netlist, first_gate_net, gate_at, arg_at, no_net}
use Rattle.ht_relevant.specs.declared.way.Way.TheVariants.{Drivers}
use Rattle.ht_relevant.specs.Distances.{DistanceState, IsFollowed, number_of}

module _ (c : Netlist) (s : DistanceState) (x : ℕ) where
  -- a gate
  pub gate_followed : (g : ℕ) → x ≡ first_gate_net c + g
      → ((i : ℕ) → i < length (gate_at c g).args → number_of s (arg_at c g i) ≤ s.distance)
      → IsFollowed c Drivers s x
  gate_followed g at put = record {
    within = λ y step.
        let o = step.output in
        let same : g ≡ step.gate = omega (arith, at, o) in
        subst (λ (n : ℕ). number_of s n ≤ s.distance) step.argument
        (subst (λ (k : ℕ). step.pin < length (gate_at c k).args → number_of s (arg_at c k step.pin) ≤ s.distance) same
        (put step.pin) step.is_pin);
    on = λ y step. let o = step.output in let k = step.known in absurd (omega (arith, at, o, k));
  }

  -- a flip-flop
  pub latch_followed : (j : ℕ) → j < length c.dffs → x ≡ c.inputs + j → Contains s.next (get_or c.dffs j no_net).0
      → IsFollowed c Drivers s x
  latch_followed j js at put = record {
    within = λ y step. let o = step.output in absurd (omega (arith, at, o, js));
    on = λ y step.
        let o = step.output in
        let same : j ≡ step.dff = omega (arith, at, o) in
        subst (Contains s.next) step.argument
        (subst (λ (k : ℕ). Contains s.next (get_or c.dffs k no_net).0) same put);
  }

  -- an input
  pub input_followed : x < c.inputs → IsFollowed c Drivers s x
  input_followed low = record {
    within = λ y step. let o = step.output in absurd (omega (arith, o, low));
    on = λ y step. let o = step.output in absurd (omega (arith, o, low));
  }
