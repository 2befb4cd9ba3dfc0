use Rattle.std.proofs.lemmas.Grind.{elements}
use Rattle.std.proofs.Common.{◌≡◌, ◌<◌, ◌+◌, ℕ, sym, subst, ap, ◌∙◌, arith}
use Rattle.ht_events.specs.Items.{item_at, item_count}
use Rattle.ht_events.specs.Plans.{PlanState, HasPosition, position_at}
use Rattle.ht_events.specs.Pending.{CoreState, IsPending, QuietAgree}
use Rattle.ht_events.proofs.SettleLaws.{none_below, spends, spends_most}
use Rattle.ht_events.proofs.event_core.Core.settle.Goals as goal

pub loop-position-preserved : goal.loop-position-preserved
loop-position-preserved g c =
    let i = c.loop-position.invariant in
    let f = c.in_ok-fire_at.ensures in
    let s = c.next_mark.new.self in
    let same = c.next_mark.ensures.same in
    let at = c.local_item-frame.ensures in
    let frame = c.local_item-frame.result.0 in
    let local = c.local_item-frame.result.1 in
    let position = c.in-Some.position in
    let view = ap (λ (s : CoreState). s.plan) c.self.view_is in
    let plan : s.plan ≡ c.args.self.now.plan = ap (λ (s : CoreState). s.plan) same ∙ i.plan in
    let stands : HasPosition s.plan (item_at s.plan.circuit frame local) position =
    subst (λ (p : PlanState). HasPosition p (item_at p.circuit frame local) position) view at.stands in
    let low = c.in-Some.ensures.from in
    record {
      plan = f.plan ∙ plan;
      circuit = f.goes_on.circuit ∙ i.circuit;
      frames = f.goes_on.frames ∙ i.frames;
      keeps = g.met.P.Plant.transitive _ _ _ i.keeps f.goes_on.keeps;
      price = f.goes_on.price ∙ i.price;
      inside =
          let l = subst (λ (p : PlanState). position < item_count p.circuit p.frames) i.plan c.in-Some.ensures.inside in
          omega (arith, l);
      spent = spends _ _ _ _ _ c.loop-position.from _ i.spent (sym i.price) f.goes_on.spent (omega (arith, low));
      agree = λ agreed. f.agree (subst (λ (s : CoreState). QuietAgree s (g.P.Plant.agrees c.loop-position.plant))
          (sym same) (i.agree agreed));
      below = subst (λ (p : PlanState). (y : ℕ) → y < item_count p.circuit p.frames
          → position_at p y < position + 1 → ¬ IsPending c.fire_at.new.self y) plan
          (none_below s c.fire_at.new.self (item_at s.plan.circuit frame local) position stands
          (subst (λ (t : CoreState). (y : ℕ) → y < item_count t.plan.circuit t.plan.frames
          → position_at t.plan y < position → ¬ IsPending t y) (sym same) c.in-Some.ensures.first) f.fired.taken
          f.fired.only);
    }

pub returns-in_err-fire_at-clause-agree : goal.returns-in_err-fire_at-clause-agree
returns-in_err-fire_at-clause-agree g c = λ agreed. c.in_err-fire_at.ensures.agree
    (subst (λ (s : CoreState). QuietAgree s (g.P.Plant.agrees c.loop-position.plant)) (sym c.next_mark.ensures.same)
    (c.loop-position.invariant.agree agreed))

pub returns-in_err-fire_at-clause-spent : goal.returns-in_err-fire_at-clause-spent
returns-in_err-fire_at-clause-spent g c =
    let i = c.loop-position.invariant in
    let low = c.in-Some.ensures.from in
    let high = subst (λ (p : PlanState). c.in-Some.position < item_count p.circuit p.frames) i.plan
    c.in-Some.ensures.inside in
    spends _ _ _ _ _ c.loop-position.from _ i.spent (sym i.price) c.in_err-fire_at.ensures.goes_on.spent
    (omega (arith, low, high))

pub returns-clause-spent : goal.returns-clause-spent
returns-clause-spent g c =
    spends_most _ _ _ c.loop-position.from _ c.loop-position.invariant.spent c.loop-position.invariant.inside

pub next_mark-requires : goal.next_mark-requires
next_mark-requires g c = grind (arith, elements)

pub returns-clause-agree : goal.returns-clause-agree
returns-clause-agree g c = grind (arith, elements)

pub returns-clause-none : goal.returns-clause-none
returns-clause-none g c = grind (arith, elements)
