use Rattle.std.proofs.Common.{◌≡◌, ◌<◌, ◌≤◌, ◌+◌, ◌-◌, ◌∙◌, ℕ, List, length, ap, sym, arith, subst}
use Rattle.ht_tern.specs.declared.gate.Kind.{Kind}
use Rattle.ht_pairs.specs.Pairs.{Pair}
use Rattle.ht_net.specs.Circuit.Netlist.{IsCircuit, first_gate_net, gate_at}
use Rattle.ht_tree.specs.Window.Windows.{cell_at, pair_set_rules}
use Rattle.ht_tree.specs.Window.WalkBack.{undetermined_argument, bit_before}
use Rattle.ht_relevant.proofs.WalkPartLaws.{argument_matters}
use Rattle.ht_window.specs.Matters.{is_relevant}
use Rattle.ht_window.proofs.WalkLaws.{back_step, back_none, back_low, undetermined_argument_known}
use Rattle.ht_window.proofs.window.Window.end_in_frame.Goals as goal

pub undetermined_argument-net-requires-clause-matters : goal.undetermined_argument-net-requires-clause-matters
undetermined_argument-net-requires-clause-matters c =
    let s = c.args.self.now in
    let circuit : c.circuit-circuit.result.now ≡ s.window.circuit = c.circuit-circuit.ensures.circuit in
    let first : c.inputs.result + c.dffs.result ≡ first_gate_net s.window.circuit =
    (λ k. c.inputs.ensures k + c.dffs.ensures k) ∙ ap first_gate_net circuit in
    let t = c.if-net-first_gate_net.true in
    let back : first_gate_net s.window.circuit + (c.loop-left.net - (c.inputs.result + c.dffs.result))
    ≡ c.loop-left.net = omega (arith, first, t) in
    ap (λ (x : ℕ). is_relevant s.relevant c.args.frame x) back ∙ c.loop-left.invariant.matters

pub loop-left-preserved : goal.loop-left-preserved
loop-left-preserved c =
    let s = c.args.self.now in
    let n = s.window.circuit in
    let r = pair_set_rules s.window.fault in
    let env : ℕ → List Pair = cell_at s.window s.decisions c.args.frame in
    let net = c.loop-left.net in
    let circuit : c.circuit-circuit.result.now ≡ n = c.circuit-circuit.ensures.circuit in
    let valid : IsCircuit n = c.circuit-circuit.ensures.valid.circuit in
    let first : c.inputs.result + c.dffs.result ≡ first_gate_net n = (λ k. c.inputs.ensures k + c.dffs.ensures k) ∙ ap
    first_gate_net circuit in
    let gate : net - (c.inputs.result + c.dffs.result) ≡ net - first_gate_net n = ap (λ (x : ℕ). net - x) first in
    let t = c.if-net-first_gate_net.true in
    let l = c.loop-left-test.true in
    let known = c.loop-left.invariant.known in
    let high : first_gate_net n ≤ net = omega (arith, first, t) in
    let kind : c.gate_kind.result ≡ (gate_at n (net - first_gate_net n)).kind = c.gate_kind.ensures ∙
    (λ k. (gate_at (circuit k) (gate k)).kind) in
    let is_net : c.undetermined_argument-net.result ≡ undetermined_argument r (net - first_gate_net n) env 0
    (gate_at n (net - first_gate_net n)).args =
    c.undetermined_argument-net.ensures ∙ ap (λ (x : ℕ). undetermined_argument r x env 0 (gate_at n x).args) gate in
    let is_bit : c.bit_before-bit.result ≡ bit_before (gate_at n (net - first_gate_net n)).kind c.loop-left.bit =
    c.bit_before-bit.ensures ∙ ap (λ (k : Kind). bit_before k c.loop-left.bit) kind in
    let inside = undetermined_argument_known n r env (net - first_gate_net n) valid (omega (arith, known, high)) in
    let next = argument_matters s.window c.circuit-circuit.ensures.valid s.decisions c.args.frame
    (is_relevant s.relevant) c.relevance.ensures.closed c.requires.frame net known high
    c.loop-left.invariant.matters c.loop-left.invariant.undetermined in
    record {
      known = omega (arith, is_net, inside);
      matters = ap (λ (x : ℕ). is_relevant s.relevant c.args.frame x) is_net ∙ next.0;
      undetermined = subst (λ (x : ℕ). 1 < length (env x)) (sym is_net) next.1;
      same = back_step n r env c.loop-left.left (record { net = net; bit = c.loop-left.bit })
          (record { net = c.undetermined_argument-net.result; bit = c.bit_before-bit.result }) (omega (arith, l)) high
          (λ k. record { net = is_net k; bit = is_bit k })
          ∙ c.loop-left.invariant.same;
    }

pub returns-else-net-first_gate_net-clause-end : goal.returns-else-net-first_gate_net-clause-end
returns-else-net-first_gate_net-clause-end c =
    let s = c.args.self.now in
    let n = s.window.circuit in
    let circuit : c.circuit-circuit.result.now ≡ n = c.circuit-circuit.ensures.circuit in
    let first : c.inputs.result + c.dffs.result ≡ first_gate_net n = (λ k. c.inputs.ensures k + c.dffs.ensures k) ∙ ap
    first_gate_net circuit in
    let t = c.if-net-first_gate_net.false in
    sym (back_low n (pair_set_rules s.window.fault) (cell_at s.window s.decisions c.args.frame) c.loop-left.left
    (record { net = c.loop-left.net; bit = c.loop-left.bit }) (omega (arith, first, t)))
    ∙ c.loop-left.invariant.same

pub returns-after-loop-left-clause-end : goal.returns-after-loop-left-clause-end
returns-after-loop-left-clause-end c =
    let s = c.args.self.now in
    let l = c.loop-left-test.false in
    sym (back_none s.window.circuit (pair_set_rules s.window.fault) (cell_at s.window s.decisions c.args.frame)
    c.loop-left.left (record { net = c.loop-left.net; bit = c.loop-left.bit }) (omega (arith, l)))
    ∙ c.loop-left.invariant.same
