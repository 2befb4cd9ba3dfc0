use Rattle.std.proofs.Common.{◌≡◌, ◌-◌, ◌∙◌, ap, sym, arith, length, inl, inr}
use Rattle.std.proofs.lemmas.List.{get_or_default}
use Rattle.ht_window.specs.Matters.{is_relevant}
use Rattle.ht_window.specs.States.{WindowState}
use Rattle.ht_window.proofs.MarkLaws.{counted}
use Rattle.ht_window.proofs.window.Window.count_before.Goals as goal

pub returns-then-index-mark : goal.returns-then-index-mark
returns-then-index-mark c =
    let a = c.self.inside in
    let n = c.loop-count.count in
    let i = c.loop-count.invariant in
    let inside = i.inside in
    let long = ap (λ (s : WindowState). length s.marks) c.self.view_is in
    let t = c.loop-count-test.true in
    let low = c.if-index-mark.true in
    let e = c.index.ensures in
    let d = get_or_default a.marks.items (n - 1) c.index.result.now 0 (omega (arith, long, inside, t)) in
    counted c.args.self.now a.held.standing.window (is_relevant a.held.relevant) a.held.relevant a.held.standing.path
    a.marks.items a.held.cells
    c.self.invariant.history c.self.view_is c.args.mark.0 n inside i.later (inr (omega (arith, e, d, low)))

pub returns : goal.returns
returns c = λ k few at.
    let t = c.loop-count-test.false in
    let zero : c.loop-count.count ≡ 0 = omega (arith, t) in
    let a = c.self.inside in
    sym zero ∙ counted c.args.self.now a.held.standing.window (is_relevant a.held.relevant) a.held.relevant a.held.standing.path
    a.marks.items a.held.cells
    c.self.invariant.history c.self.view_is c.args.mark.0 c.loop-count.count c.loop-count.invariant.inside
    c.loop-count.invariant.later (inl zero) k few at
