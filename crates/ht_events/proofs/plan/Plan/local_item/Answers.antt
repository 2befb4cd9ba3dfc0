use Rattle.std.proofs.Common.{◌≡◌, ◌<◌, ◌∙◌, ℕ, subst, get_or, ap, arith, sym, length}
use Rattle.ht_events.specs.Ranks.{AreRanked}
use Rattle.ht_events.specs.Items.{item_at, item_count, frame_of, local_of}
use Rattle.ht_events.specs.FramePlans.{FramePlanState}
use Rattle.ht_events.specs.Plans.{PlanState, HasPosition}
use Rattle.ht_events.proofs.ItemLaws.{ranked_item, ranked_inside, positions_differ, loads_later}
use Rattle.ht_events.proofs.plan.Plan.local_item.Goals as goal

ranking : (c : goal.After-item) → let f = c.self.inside.frame_plan.value in
    AreRanked f.circuit (length f.circuit.dffs) f.order f.ranks
ranking c = subst (λ (f : FramePlanState). AreRanked f.circuit (length f.circuit.dffs) f.order f.ranks)
    c.deref-plan.ensures c.item.ensures.ranking

-- the item is the one of its position, no other stands there, and its loads stand later
pub returns-clause-stands : goal.returns-clause-stands
returns-clause-stands c =
    let a = c.self.inside in
    let f = a.frame_plan.value in
    let r = ranking c in
    let p = c.args.position in
    let frame = c.split-frame.result.0 in
    let o = c.item.result in
    let P : PlanState → Type 0 = λ (s : PlanState). p < item_count s.circuit s.frames → frame ≡ frame_of s.circuit p
    → c.split-frame.result.1 ≡ local_of s.circuit p → HasPosition s (item_at s.circuit frame o) p in
    subst P c.self.view_is (λ inside fs ls.
    let os : o ≡ get_or f.order (local_of f.circuit p) 0 = c.item.ensures.item
    ∙ (ap (λ (f : FramePlanState). get_or f.order c.split-frame.result.1 0) c.deref-plan.ensures
    ∙ ap (λ (k : ℕ). get_or f.order k 0) ls) in
    let item = item_at f.circuit frame o in
    let known = ranked_inside f.circuit f.order f.ranks r a.frames p frame o inside fs os in
    let at = ranked_item f.circuit f.order f.ranks r a.frames p frame o inside fs os in
    record {
      inside = inside;
      at = at;
      only = λ y ys e. positions_differ f.circuit f.order f.ranks r a.frames y item ys known (e ∙ sym at);
      later = λ y load. let l = loads_later f.circuit f.order f.ranks r a.frames item y known load in
          omega (arith, l, at);
    })
    c.requires c.split-frame.ensures.frame c.split-frame.ensures.local
