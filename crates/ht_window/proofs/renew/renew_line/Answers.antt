use Rattle.std.proofs.Common.{◌≡◌, ◌<◌, ◌∙◌, ℕ, ap, sym, arith, subst, Some}
use Rattle.ht_net.specs.Circuit.Netlist.{Netlist, net_count}
use Rattle.ht_window.specs.Standing.{Standing}
use Rattle.ht_relevant.specs.Reached.{begins_at}
use Rattle.ht_window.specs.Renewals.{HoldsOrPends}
use Rattle.ht_window.proofs.RenewLaws.{one_more_renewed, plan_renewed}
use Rattle.ht_window.proofs.renew.renew_line.Goals as goal

pub renew-requires-clause-plan : goal.renew-requires-clause-plan
renew-requires-clause-plan c = plan_renewed c.args.core.now c.loop-frame.core c.args.held.now c.loop-frame.held
    c.loop-frame.invariant.renewed c.requires

pub renew-requires-clause-frame : goal.renew-requires-clause-frame
renew-requires-clause-frame c =
    let t = c.loop-frame-test.true in
    let f = c.frames-frames.ensures in
    let d = ap (λ (s : Standing). s.window.frames) c.decisions-decisions.ensures.standing in
    let r = ap (λ (s : Standing). s.window.frames) c.loop-frame.invariant.renewed.standing in
    omega (arith, t, f, d, r)

pub renew-requires-clause-net : goal.renew-requires-clause-net
renew-requires-clause-net c =
    let s = ap (λ (s : Standing). net_count s.window.circuit) c.decisions-decisions.ensures.standing in
    let n = ap net_count c.circuit.ensures.circuit in
    let r = ap (λ (s : Standing). net_count s.window.circuit) c.loop-frame.invariant.renewed.standing in
    let i = c.in-Some.ensures.inside in
    omega (arith, s, n, r, i)

pub loop-frame-preserved : goal.loop-frame-preserved
loop-frame-preserved c =
    let a = c.args.held.now in
    let e = c.in_ok-renew.ensures in
    let t = c.loop-frame-test.true in
    let f = c.frames-frames.ensures in
    let d = ap (λ (s : Standing). s.window.frames) c.decisions-decisions.ensures.standing in
    let s = ap (λ (s : Standing). net_count s.window.circuit) c.decisions-decisions.ensures.standing in
    let n = ap net_count c.circuit.ensures.circuit in
    let i = c.in-Some.ensures.inside in
    one_more_renewed c.args.core.now c.loop-frame.core c.renew.new.core a c.loop-frame.held c.renew.new.held (λ k. k)
    (λ k. c.in-Some.net) c.loop-frame.frame (λ k less. (omega (arith, t, f, d, less), omega (arith, s, n, i)))
    c.loop-frame.invariant e.renewed e.holds

pub returns-clause-holds : goal.returns-clause-holds
returns-clause-holds c = λ f x fs xs reached.
    let a = c.args.held.now in
    let t = c.loop-frame-test.false in
    let n = c.frames-frames.ensures in
    let d = ap (λ (s : Standing). s.window.frames) c.decisions-decisions.ensures.standing in
    let circuit : c.circuit.result.now ≡ a.standing.window.circuit = c.circuit.ensures.circuit
    ∙ ap (λ (s : Standing). s.window.circuit) c.decisions-decisions.ensures.standing in
    let found : Some c.in-Some.net ≡ Some x = c.in-Some.ensures.only x
    (subst (λ (k : Netlist). x < net_count k) (sym circuit) xs)
    (ap (λ (k : Netlist). begins_at k c.args.fault x) circuit ∙ reached) in
    let same : c.in-Some.net ≡ x = cc in
    subst (λ (y : ℕ). HoldsOrPends c.loop-frame.core c.loop-frame.held f y) same
    (c.loop-frame.invariant.done f (omega (arith, t, n, d, fs)))
