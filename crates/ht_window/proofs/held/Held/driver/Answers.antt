use Rattle.std.proofs.lemmas.Grind.{common_steps}
use Rattle.std.proofs.Common.{◌≡◌, ◌∙◌, ◌+◌, ◌-◌, ℕ, List, ap, get_or, arith, length, subst, take, drop}
use Rattle.ht_net.specs.Circuit.Netlist.{Netlist, first_gate_net, net_count}
use Rattle.ht_pairs.specs.Decided.{same_pairs}
use Rattle.ht_tree.specs.Window.Decisions.{decided_value}
use Rattle.ht_tree.specs.Window.Windows.{first_input, IsWindow, pair_set_rules}
use Rattle.ht_net.specs.Frames.Frame.{gate_output}
use Rattle.ht_frame.specs.Values.{env_of}
use Rattle.ht_pairs.specs.Pairs.{Pair}
use Rattle.ht_window.specs.Holding.{HeldState}
use Rattle.ht_window.specs.Cells.{latches_over, blank, cell_index}
use Rattle.ht_window.proofs.DriverLaws.{driver_input, driver_latch, driver_gate, row_cells}
use Rattle.ht_window.proofs.held.Held.driver.Goals as goal

pub returns-then-net-inputs-clause-value : goal.returns-then-net-inputs-clause-value
returns-then-net-inputs-clause-value c =
    let s = c.args.self.now in
    let t = c.if-net-inputs.true in
    let i = c.inputs-inputs.ensures in
    let e = ap (λ (h : HeldState). h.standing.window.circuit.inputs) c.self.view_is in
    let q = ap (λ (n : Netlist). n.inputs) c.circuit-circuit.ensures.circuit in
    driver_input s.standing.window s.standing.path s.cells.values c.args.frame c.args.net c.input.result
    (omega (arith, t, i, e, q))
    (subst (λ (h : HeldState). c.input.result
    ≡ same_pairs (decided_value h.standing.path (first_input h.standing.window c.args.frame + c.args.net)))
    c.self.view_is c.input.ensures)

pub returns-then-net-first_gate-clause-value : goal.returns-then-net-first_gate-clause-value
returns-then-net-first_gate-clause-value c =
    let s = c.args.self.now in
    let low = c.if-net-inputs.false in
    let high = c.if-net-first_gate.true in
    let i = c.inputs-inputs.ensures in
    let n = c.dffs.ensures in
    let e = ap (λ (h : HeldState). h.standing.window.circuit.inputs) c.self.view_is in
    let m = ap (λ (h : HeldState). length h.standing.window.circuit.dffs) c.self.view_is in
    let q = ap (λ (n : Netlist). n.inputs) c.circuit-circuit.ensures.circuit in
    let p = ap (λ (n : Netlist). length n.dffs) c.circuit-circuit.ensures.circuit in
    let same : c.inputs-inputs.result ≡ s.standing.window.circuit.inputs = omega (arith, i, e, q) in
    driver_latch s.standing.window s.standing.path s.cells.values c.args.frame c.args.net c.latch.result
    (omega (arith, low, same)) (omega (arith, high, i, n, e, m, q, p))
    (c.latch.ensures ∙ ap
    (λ (k : ℕ). get_or (latches_over s.standing.window s.standing.path s.cells.values c.args.frame) (c.args.net - k)
    blank) same)

pub returns-clause-value : goal.returns-clause-value
returns-clause-value c =
    let s = c.args.self.now in
    let w = s.standing.window in
    let low = c.if-net-inputs.false in
    let high = c.if-net-first_gate.false in
    let i = c.inputs-inputs.ensures in
    let n = c.dffs.ensures in
    let circuit : c.circuit-circuit.result.now ≡ w.circuit = c.circuit-circuit.ensures.circuit ∙ ap
    (λ (h : HeldState). h.standing.window.circuit) c.self.view_is in
    let fault : c.fault.result ≡ w.fault = c.fault.ensures ∙ ap (λ (h : HeldState). h.standing.window.fault)
    c.self.view_is in
    let q = ap (λ (n : Netlist). first_gate_net n) circuit in
    let nets : c.nets-nets.result ≡ net_count w.circuit = c.nets-nets.ensures.count ∙ ap net_count circuit in
    let first : c.inputs-inputs.result + c.dffs.result ≡ first_gate_net w.circuit = omega (arith, i, n, q) in
    let cells : c.values.result.now ≡ s.cells.values = c.values.ensures ∙ ap (λ (h : HeldState). h.cells.values)
    c.self.view_is in
    let row = take (c.cell_index-start.result + c.nets-nets.result - c.cell_index-start.result)
    (drop c.cell_index-start.result c.values.result.now) in
    let start : c.cell_index-start.result ≡ cell_index w c.args.frame 0 = c.cell_index-start.ensures.index in
    let some : c.cell_index-start.result + c.nets-nets.result - c.cell_index-start.result
    ≡ net_count w.circuit = omega (arith, nets) in
    let is : row ≡ take (net_count w.circuit) (drop (cell_index w c.args.frame 0) s.cells.values) =
    (λ i. take (some i) (drop (start i) (cells i))) in
    driver_gate w (subst (λ (h : HeldState). IsWindow h.standing.window) c.self.view_is c.self.invariant.window)
    s.standing.path s.cells.values row c.args.frame c.args.net c.gate_output.result (omega (arith, high, first))
    c.requires.net
    (λ y ys. ap (λ (t : List (List Pair)). get_or t y blank) is ∙ row_cells w s.cells.values c.args.frame y ys)
    (c.gate_output.ensures ∙
    (λ i. gate_output (circuit i) (pair_set_rules (fault i)) (env_of blank row) (c.args.net - first i)))

pub slice_bounds-row-end : goal.slice_bounds-row-end
slice_bounds-row-end c = grind (arith, common_steps)

pub invariant_of-self : goal.invariant_of-self
invariant_of-self c = grind (arith, common_steps)
