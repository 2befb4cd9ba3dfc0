use Rattle.std.proofs.Common.{◌≡◌, ℕ, ◌-◌, length, take, ap, ◌∙◌, arith}
use Rattle.ht_net.proofs.VisitLaws.{left_fewer, left_keeps, waits_cycle}
use Rattle.ht_net.proofs.levels.LevelWalk.level_or_descend.Goals as goal

pub invariant_of-self : goal.invariant_of-self
invariant_of-self c =
    let long : c.self.inside.path.len ≡ length c.self.inside.path.items = omega (arith, c.self.inside.path.ok.0) in
    left_keeps c.self.invariant c.self.view_is c.requires c.deref.ensures.value c.args-args.ensures
    c.in-Level.ensures c.pop.new.self.items
    (c.pop.ensures.rest ∙ ap (λ (n : ℕ). take (n - 1) c.self.inside.path.items) long)

pub returns-in-Level-clause-fewer : goal.returns-in-Level-clause-fewer
returns-in-Level-clause-fewer c = left_fewer c.self.invariant c.self.view_is c.requires c.deref.ensures.value
    c.args-args.ensures c.in-Level.ensures c.pop.new.self.items

pub returns-then-index-clause-error : goal.returns-then-index-clause-error
returns-then-index-clause-error c = waits_cycle c.self.invariant c.self.view_is c.requires c.deref.ensures.value
    c.args-args.ensures c.in-Gate.ensures c.deref-then-index.ensures.value c.in_ok-cycle.ensures
