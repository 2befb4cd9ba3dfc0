use Rattle.std.proofs.Common.{◌≡◌, ◌<◌, ◌⊎◌, inl, inr, ℕ, false, true, get_or, ap, ◌∙◌, subst, sym, arith}
use Rattle.ht_events.specs.Items.{IsLoad, IsReader, driven_net, item_at, item_count}
use Rattle.ht_events.specs.Plans.{PlanState, position_at}
use Rattle.ht_events.specs.Pending.{CoreState, IsPending}
use Rattle.ht_events.proofs.ItemLaws.{item_inside, load_reads, reader_loads}
use Rattle.ht_events.proofs.event_core.Core.finish.Goals as goal

net_is : (c : goal.After-touch_loads) → c.net-net.result.0 ≡ driven_net c.args.self.now.plan.circuit c.args.local
net_is c = c.net-net.ensures.net ∙ ap (λ (s : CoreState). driven_net s.plan.circuit c.args.local) c.self.view_is
    ∙ ap (λ (p : PlanState). driven_net p.circuit c.args.local) c.remove.ensures.plan

-- which items are pending once the item was taken out and its loads were touched
touched : (c : goal.After-touch_loads) → let p = c.args.self.now.plan in (y : ℕ) → y < item_count p.circuit p.frames
    → IsPending c.touch_loads.new.self y → IsPending c.remove.new.self y
    ⊎ IsLoad p.circuit p.frames (item_at p.circuit c.args.frame c.args.local) y
touched c y known pending =
    let p = c.args.self.now.plan in
    let same = c.remove.ensures.plan in
    elim (c.touch_loads.ensures.only y (subst (λ (p : PlanState). y < item_count p.circuit p.frames) (sym same) known)
    pending) [
      | inl old ↦ inl old
      | inr r ↦ inr (reader_loads p.circuit p.frames c.args.frame c.args.local y c.requires.local
          (subst (λ (n : ℕ). IsReader p.circuit p.frames c.args.frame n y) (net_is c)
          (subst (λ (p : PlanState). IsReader p.circuit p.frames c.args.frame c.net-net.result.0 y) same r)))
    ]

pub returns-then-changed-clause-taken : goal.returns-then-changed-clause-taken
returns-then-changed-clause-taken c = λ pending.
    let p = c.args.self.now.plan in
    let item = item_at p.circuit c.args.frame c.args.local in
    let known = item_inside p.circuit p.frames c.args.frame c.args.local c.requires.frame c.requires.local in
    let at = c.requires.stands.at in
    elim (touched c item known pending) [
      | inl old ↦ c.remove.ensures.taken (subst (λ (q : ℕ). get_or c.remove.new.self.marks q false ≡ true)
          (ap (λ (p : PlanState). position_at p item) c.remove.ensures.plan ∙ at) old)
      | inr load ↦ let l = c.requires.stands.later item load in absurd (omega (arith, l, at))
    ]

pub returns-then-changed-clause-loads : goal.returns-then-changed-clause-loads
returns-then-changed-clause-loads c = λ changed y load.
    let p = c.args.self.now.plan in
    c.touch_loads.ensures.loads y
    (subst (λ (p : PlanState). IsReader p.circuit p.frames c.args.frame c.net-net.result.0 y)
    (sym c.remove.ensures.plan)
    (subst (λ (n : ℕ). IsReader p.circuit p.frames c.args.frame n y) (sym (net_is c))
    (load_reads p.circuit p.frames c.args.frame c.args.local y c.requires.local load)))

pub returns-then-changed-clause-only : goal.returns-then-changed-clause-only
returns-then-changed-clause-only c = λ y known pending. elim (touched c y known pending) [
  | inl old ↦ inl (c.remove.ensures.fewer y old)
  | inr load ↦ inr (c.if-changed.true, load)
]
