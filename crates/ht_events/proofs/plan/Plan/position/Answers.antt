use Rattle.std.proofs.Common.{◌≡◌, ◌<◌, ◌∙◌, ℕ, ap, subst, sym}
use Rattle.ht_events.specs.Items.{IsLoad, item_at, item_count}
use Rattle.ht_events.specs.Plans.{position_at}
use Rattle.ht_events.proofs.ItemLaws.{item_is}
use Rattle.ht_events.proofs.plan.Plan.position.Goals as goal

at : (c : goal.After-local_position) → item_at c.args.self.now.circuit c.split-frame.result.0 c.split-frame.result.1
    ≡ c.args.item
at c =
    let n = c.args.self.now.circuit in
    (λ i. item_at n (c.split-frame.ensures.frame i) (c.split-frame.ensures.local i)) ∙ item_is n c.args.item

pub returns-clause-position : goal.returns-clause-position
returns-clause-position c = c.local_position.ensures.position ∙ ap (position_at c.args.self.now) (at c)

pub returns-clause-only : goal.returns-clause-only
returns-clause-only c =
    let s = c.args.self.now in
    subst (λ (x : ℕ). (y : ℕ) → y < item_count s.circuit s.frames → position_at s y ≡ position_at s x → y ≡ x) (at c)
    c.local_position.ensures.only

pub returns-clause-later : goal.returns-clause-later
returns-clause-later c y load =
    let s = c.args.self.now in
    subst (λ (x : ℕ). position_at s x < position_at s y) (at c) (c.local_position.ensures.later y
    (subst (λ (x : ℕ). IsLoad s.circuit s.frames x y) (sym (at c)) load))
