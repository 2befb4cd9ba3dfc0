use Rattle.std.proofs.Common.{◌≡◌, ◌<◌, ◌≤◌, ◌∙◌, true, ℕ, Option, ap, sym, subst}
use Rattle.ht_net.specs.declared.fault.Fault.{Fault}
use Rattle.ht_net.specs.Circuit.Netlist.{net_count, first_gate_net}
use Rattle.ht_tree.specs.Window.Windows.{IsWindow}
use Rattle.ht_relevant.specs.Near.{RelevantState}
use Rattle.ht_relevant.specs.Reached.{begins_at}
use Rattle.ht_relevant.specs.Relevant.{IsClosedBack}
use Rattle.ht_window.specs.Standing.{Standing}
use Rattle.ht_window.specs.Cells.{AreCells}
use Rattle.ht_window.specs.Matters.{is_relevant}
use Rattle.ht_window.specs.Renewals.{HoldsOrPends}
use Rattle.ht_window.proofs.RenewLaws.{renewed_more, plan_renewed, all_renewed, all_followed}
use Rattle.ht_window.proofs.renew.follow_fault.Goals as goal

pub returns-clause-relevant : goal.returns-clause-relevant
returns-clause-relevant c = c.in_ok-settle.ensures.keeps.relevant
    ∙ (c.in_ok-renew_latches.ensures.renewed.relevant ∙ (c.in_ok-renew_line-2.ensures.renewed.relevant
    ∙ c.in_ok-renew_line.ensures.renewed.relevant))

pub returns-clause-cells : goal.returns-clause-cells
returns-clause-cells c =
    let s = c.args.core.now in
    let a = c.args.held.now in
    let s1 = c.renew_line.new.core in
    let a1 = c.renew_line.new.held in
    let s2 = c.renew_line-2.new.core in
    let a2 = c.renew_line-2.new.held in
    let t = c.renew_latches.new.core in
    let b = c.renew_latches.new.held in
    let one = c.in_ok-renew_line.ensures in
    let two = c.in_ok-renew_line-2.ensures in
    let three = c.in_ok-renew_latches.ensures in
    let first = renewed_more s s1 s2 a a1 a2 one.renewed two.renewed in
    let last = renewed_more s1 s2 t a1 a2 b two.renewed three.renewed in
    let whole = renewed_more s s2 t a a2 b first three.renewed in
    let fault = c.fault-fault.ensures ∙ ap (λ (n : Standing). n.window.fault) c.decisions.ensures.standing in
    let before : (f x : ℕ) → f < a.standing.window.frames → x < net_count a.standing.window.circuit
    → begins_at a.standing.window.circuit c.args.before x ≡ true → HoldsOrPends t b f x = λ f x fs xs reached.
    subst (λ (n : Standing). (g y : ℕ) → g < n.window.frames → y < net_count n.window.circuit → HoldsOrPends s1 a1 g y
    → HoldsOrPends t b g y) one.renewed.standing last.holds f x fs xs (one.holds f x fs xs reached) in
    let now : (f x : ℕ) → f < a.standing.window.frames → x < net_count a.standing.window.circuit
    → begins_at a.standing.window.circuit a.standing.window.fault x ≡ true → HoldsOrPends t b f x =
    λ f x fs xs reached.
    subst (λ (n : Standing). (g y : ℕ) → g < n.window.frames → y < net_count n.window.circuit → HoldsOrPends s2 a2 g y
    → HoldsOrPends t b g y) first.standing three.renewed.holds f x fs xs
    (subst (λ (n : Standing). (g y : ℕ) → g < n.window.frames → y < net_count n.window.circuit
    → begins_at n.window.circuit c.fault-fault.result y ≡ true → HoldsOrPends s2 a2 g y) one.renewed.standing two.holds
    f x fs xs (ap (λ (o : Option Fault). begins_at a.standing.window.circuit o x) fault ∙ reached)) in
    let latches : (x : ℕ) → a.standing.window.circuit.inputs ≤ x → x < first_gate_net a.standing.window.circuit
    → HoldsOrPends t b 0 x =
    subst (λ (n : Standing). (x : ℕ) → n.window.circuit.inputs ≤ x → x < first_gate_net n.window.circuit
    → HoldsOrPends t b 0 x) first.standing three.holds in
    let all = all_renewed s t a b c.args.before c.requires.holds whole before now latches in
    let plan = plan_renewed s t a b whole c.requires.plan in
    let e = c.in_ok-settle.ensures in
    let closed = subst (λ (o : Option RelevantState). IsClosedBack a.standing.window.circuit a.standing.window.frames
    (is_relevant o)) (sym whole.relevant) c.requires.closed in
    subst (λ (o : Option RelevantState). AreCells a.standing.window (is_relevant o) a.standing.path
    c.settle.new.plant.cells.values) whole.relevant
    (subst (λ (n : Standing). AreCells n.window (is_relevant b.relevant) n.path c.settle.new.plant.cells.values)
    whole.standing
    (all_followed t c.settle.new.self b c.settle.new.plant
    (subst (λ (n : Standing). IsWindow n.window) (sym whole.standing) c.decisions.ensures.window)
    (subst (λ (n : Standing). IsClosedBack n.window.circuit n.window.frames (is_relevant b.relevant))
    (sym whole.standing) closed)
    plan e.plan
    (subst (λ (n : Standing). (f x : ℕ) → f < n.window.frames → x < net_count n.window.circuit → HoldsOrPends t b f x)
    (sym whole.standing) all)
    e.keeps e.agree e.none))
