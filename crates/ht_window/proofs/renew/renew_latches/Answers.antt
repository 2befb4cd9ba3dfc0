use Rattle.std.proofs.Common.{◌≡◌, ◌+◌, ◌-◌, ◌∙◌, ℕ, ap, arith, length, subst}
use Rattle.ht_net.specs.Circuit.Netlist.{Netlist, net_count}
use Rattle.ht_window.specs.Standing.{Standing}
use Rattle.ht_window.specs.Renewals.{HoldsOrPends}
use Rattle.ht_window.proofs.LegalLaws.{legal_frame}
use Rattle.ht_window.proofs.RenewLaws.{one_more_renewed, plan_renewed}
use Rattle.ht_window.proofs.renew.renew_latches.Goals as goal

pub renew-requires-clause-plan : goal.renew-requires-clause-plan
renew-requires-clause-plan c = plan_renewed c.args.core.now c.loop-j.core c.args.held.now c.loop-j.held
    c.loop-j.invariant.renewed c.requires

pub renew-requires-clause-frame : goal.renew-requires-clause-frame
renew-requires-clause-frame c =
    let f = legal_frame c.args.held.now.standing.window c.decisions-decisions.ensures.window 0 in
    let r = ap (λ (s : Standing). s.window.frames) c.loop-j.invariant.renewed.standing in
    omega (arith, f, r)

-- the circuit is that of the window
circuit : (c : goal.After-loop-j) → c.circuit-circuit.result.now ≡ c.args.held.now.standing.window.circuit
circuit c = c.circuit-circuit.ensures.circuit ∙ ap (λ (s : Standing). s.window.circuit)
    c.decisions-decisions.ensures.standing

pub renew-requires-clause-net : goal.renew-requires-clause-net
renew-requires-clause-net c =
    let n : c.circuit-circuit.result.now ≡ c.args.held.now.standing.window.circuit = c.circuit-circuit.ensures.circuit
    ∙ ap (λ (s : Standing). s.window.circuit) c.decisions-decisions.ensures.standing in
    let i = c.inputs-inputs.ensures ∙ ap (λ (k : Netlist). k.inputs) n in
    let d = c.dffs-j-end.ensures ∙ ap (λ (k : Netlist). length k.dffs) n in
    let t = c.loop-j-test.true in
    let r = ap (λ (s : Standing). net_count s.window.circuit) c.loop-j.invariant.renewed.standing in
    omega (arith, i, d, t, r)

pub loop-j-preserved : goal.loop-j-preserved
loop-j-preserved c =
    let w = c.args.held.now.standing.window in
    let n : c.circuit-circuit.result.now ≡ w.circuit = c.circuit-circuit.ensures.circuit
    ∙ ap (λ (s : Standing). s.window.circuit) c.decisions-decisions.ensures.standing in
    let i = c.inputs-inputs.ensures ∙ ap (λ (k : Netlist). k.inputs) n in
    let d = c.dffs-j-end.ensures ∙ ap (λ (k : Netlist). length k.dffs) n in
    let t = c.loop-j-test.true in
    let some = legal_frame w c.decisions-decisions.ensures.window 0 in
    let e = c.in_ok-renew.ensures in
    one_more_renewed c.args.core.now c.loop-j.core c.renew.new.core c.args.held.now c.loop-j.held c.renew.new.held
    (λ k. 0) (λ k. c.inputs-inputs.result + k) c.loop-j.j
    (λ k less. (omega (arith, some), omega (arith, i, d, t, less))) c.loop-j.invariant e.renewed e.holds

pub returns-clause-holds : goal.returns-clause-holds
returns-clause-holds c = λ x at low.
    let i = c.inputs-inputs.ensures ∙ ap (λ (k : Netlist). k.inputs) (circuit c) in
    let d = c.dffs-j-end.ensures ∙ ap (λ (k : Netlist). length k.dffs) (circuit c) in
    let t = c.loop-j-test.false in
    let same : c.inputs-inputs.result + (x - c.inputs-inputs.result) ≡ x = omega (arith, i, at) in
    subst (λ (y : ℕ). HoldsOrPends c.loop-j.core c.loop-j.held 0 y) same
    (c.loop-j.invariant.done (x - c.inputs-inputs.result) (omega (arith, i, d, t, at, low)))
