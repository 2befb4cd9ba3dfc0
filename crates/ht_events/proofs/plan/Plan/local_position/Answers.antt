use Rattle.std.proofs.Common.{◌≡◌, ◌<◌, ◌+◌, ◌*◌, ℕ, length, sym, subst}
use Rattle.ht_events.specs.Ranks.{AreRanked}
use Rattle.ht_events.specs.Items.{IsLoad, frame_items, item_at, item_count}
use Rattle.ht_events.specs.FramePlans.{FramePlanState}
use Rattle.ht_events.specs.Plans.{PlanState, position_at}
use Rattle.ht_events.proofs.ItemLaws.{item_inside, loads_later, positions_differ}
use Rattle.ht_events.proofs.plan.Plan.local_position.Goals as goal

ranking : (c : goal.After-rank) → let f = c.self.inside.frame_plan.value in
    AreRanked f.circuit (length f.circuit.dffs) f.order f.ranks
ranking c = subst (λ (f : FramePlanState). AreRanked f.circuit (length f.circuit.dffs) f.order f.ranks)
    c.deref-plan.ensures c.rank.ensures.ranking

-- the place that a rank below a frame's length has in the order of all
within : (c : goal.After-rank) → c.args.frame * c.items-2.result + c.rank.result
    < item_count c.args.self.now.circuit c.args.self.now.frames
within c =
    let a = c.self.inside in
    let f = c.deref-plan.result.now in
    let same = c.deref-plan.ensures in
    let n = c.items-2.result in
    let P : PlanState → Type 0 = λ (s : PlanState). c.args.frame < s.frames
    → c.args.frame * n + c.rank.result < item_count s.circuit s.frames in
    let Q : FramePlanState → Type 0 = λ (g : FramePlanState). c.args.frame < a.frames
    → c.args.frame * n + c.rank.result < item_count g.circuit a.frames in
    subst P c.self.view_is
    (subst Q same
    (λ fs. subst (λ (k : ℕ). c.args.frame * k + c.rank.result < item_count f.circuit a.frames)
    (sym c.items-2.ensures.items)
    (item_inside f.circuit a.frames c.args.frame c.rank.result fs c.rank.ensures.inside)))
    c.requires.frame

pub returns-clause-inside : goal.returns-clause-inside
returns-clause-inside c = within c

pub returns-clause-item : goal.returns-clause-item
returns-clause-item c = item_inside c.args.self.now.circuit c.args.self.now.frames c.args.frame c.args.local
    c.requires.frame c.requires.local

-- no other item stands there, and what reads the item stands later
stands : (c : goal.After-rank) → let s = c.args.self.now in let x = item_at s.circuit c.args.frame c.args.local in
    ((y : ℕ) → y < item_count s.circuit s.frames → position_at s y ≡ position_at s x → y ≡ x)
    × ((y : ℕ) → IsLoad s.circuit s.frames x y → position_at s x < position_at s y)
stands c =
    let a = c.self.inside in
    let f = a.frame_plan.value in
    let x = item_at f.circuit c.args.frame c.args.local in
    let P : PlanState → Type 0 = λ (s : PlanState). c.args.frame < s.frames → c.args.local < frame_items s.circuit
    → ((y : ℕ) → y < item_count s.circuit s.frames
    → position_at s y ≡ position_at s (item_at s.circuit c.args.frame c.args.local)
    → y ≡ item_at s.circuit c.args.frame c.args.local)
    × ((y : ℕ) → IsLoad s.circuit s.frames (item_at s.circuit c.args.frame c.args.local) y
    → position_at s (item_at s.circuit c.args.frame c.args.local) < position_at s y) in
    subst P c.self.view_is
    (λ fs ls.
    let known = item_inside f.circuit a.frames c.args.frame c.args.local fs ls in (
      λ y ys e. positions_differ f.circuit f.order f.ranks (ranking c) a.frames y x ys known e,
      λ y load. loads_later f.circuit f.order f.ranks (ranking c) a.frames x y known load,
    ))
    c.requires.frame c.requires.local

pub returns-clause-only : goal.returns-clause-only
returns-clause-only c = (stands c).0

pub returns-clause-later : goal.returns-clause-later
returns-clause-later c = (stands c).1
