use Rattle.std.proofs.Common.{◌∙◌, None, ap, sym, arith}
use Rattle.std.proofs.Math.ListN.{get_or-eq_default}
use Rattle.ht_tree.specs.Window.Decisions.{decided_value}
use Rattle.ht_window.specs.Standing.{Standing}
use Rattle.ht_window.proofs.ValueLaws.{value_now}
use Rattle.ht_window.proofs.decisions.Decisions.value.Goals as goal

pub returns-then-var-len : goal.returns-then-var-len
returns-then-var-len c =
    let a = c.self.inside in
    c.get.ensures None ∙
    (value_now a.values a.path.items c.self.invariant.history c.args.var ∙ ap
    (λ (s : Standing). decided_value s.path c.args.var) c.self.view_is)

pub returns-else-var-len : goal.returns-else-var-len
returns-else-var-len c =
    let a = c.self.inside in
    let t = c.if-var-len.false in
    let n = c.len.ensures in
    sym (get_or-eq_default a.values.values None {n = c.args.var} (omega (arith, t, n))) ∙
    (value_now a.values a.path.items c.self.invariant.history c.args.var ∙ ap
    (λ (s : Standing). decided_value s.path c.args.var) c.self.view_is)
