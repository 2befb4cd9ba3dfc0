use Rattle.std.proofs.Common.{length, subst}
use Rattle.ht_events.specs.Ranks.{AreRanked}
use Rattle.ht_events.specs.FramePlans.{FramePlanState}
use Rattle.ht_events.specs.Plans.{PlanState, AreDistinctRanks}
use Rattle.ht_events.proofs.ItemLaws.{positions_differ}
use Rattle.ht_events.proofs.plan.Plan.load_offsets.Goals as goal

ranking : (c : goal.After-load_offsets) → let f = c.self.inside.frame_plan.value in
    AreRanked f.circuit (length f.circuit.dffs) f.order f.ranks
ranking c = subst (λ (f : FramePlanState). AreRanked f.circuit (length f.circuit.dffs) f.order f.ranks)
    c.deref.ensures c.load_offsets.ensures.ranking

pub returns-clause-apart : goal.returns-clause-apart
returns-clause-apart c =
    let a = c.self.inside in
    let f = a.frame_plan.value in
    let r = ranking c in
    subst (λ (s : PlanState). AreDistinctRanks s) c.self.view_is (record {
      count = r.rank_count;
      small = r.small;
      apart = λ x y xs ys e. positions_differ f.circuit f.order f.ranks r a.frames x y xs ys e;
    })
