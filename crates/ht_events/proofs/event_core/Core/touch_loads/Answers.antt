use Rattle.std.proofs.Common.{◌≡◌, ◌<◌, ◌+◌, ◌*◌, ◌⊎◌, inl, ℕ, Bool, List, length, get_or, sym, ◌∙◌, ap, arith, subst}
use Rattle.std.proofs.lemmas.List.{length-set}
use Rattle.ht_events.specs.Items.{IsReader, frame_items, item_count}
use Rattle.ht_events.specs.Plans.{PlanState}
use Rattle.ht_events.specs.Pending.{CoreState, IsPending, core_items}
use Rattle.ht_events.proofs.LoadLaws.{IsTouched, offset_at, offset_few, touched_past, touched_more, touched_all}
use Rattle.ht_events.proofs.event_core.Core.touch_loads.Goals.{then-position-items, else-position-items}
use Rattle.ht_events.proofs.event_core.Core.touch_loads.Goals as goal

pub loop-offset-init : goal.loop-offset-init
loop-offset-init c = record {
  room = subst (λ (s : CoreState). length c.self.inside.marks ≡ item_count s.plan.circuit s.plan.frames)
      c.self.view_is c.self.invariant.count;
  touched = record {
    more = λ y m. m;
    done = λ k l less e reads there. absurd (omega (arith, less));
    only = λ y known m. inl m;
  };
}

pub invariant_of-self : goal.invariant_of-self
invariant_of-self c = record {
  count = subst (λ (s : PlanState). length c.loop-offset.marks ≡ item_count s.circuit s.frames)
      (sym (ap (λ (s : CoreState). s.plan) c.self.view_is)) c.loop-offset.invariant.room;
}

pub overflow_add-position : goal.overflow_add-position
overflow_add-position c =
    let p = c.self.inside.plan in
    let r = c.load_offsets-offset-items in
    let i = c.loop-offset.offset-index in
    let few = c.first_position-first.ensures.few in
    let same : get_or r.result.now i 0 ≡ offset_at p c.args.net.0 i =
    ap (λ (l : List ℕ). get_or l i 0) r.ensures.offsets in
    let small = offset_few p c.args.frame c.args.net.0 i r.ensures.apart r.ensures.table
    (subst (λ (l : List ℕ). i < length l) r.ensures.offsets c.loop-offset-test.true) in
    omega (arith, few, same, small)

pub insert-requires : goal.insert-requires
insert-requires c =
    let less = c.if-position-items.true in
    let items = c.items-items.ensures.items in
    let room = subst (λ (s : PlanState). length c.loop-offset.marks ≡ item_count s.circuit s.frames)
    (sym (ap (λ (s : CoreState). s.plan) c.self.view_is)) c.loop-offset.invariant.room in
    omega (arith, less, items, room)

pub loop-offset-preserved : goal.loop-offset-preserved
loop-offset-preserved c =
    let p = c.self.inside.plan in
    let view = ap (λ (s : CoreState). s.plan) c.self.view_is in
    let x = c.args.net.0 in
    let old = c.self.inside.marks in
    let r = c.load_offsets-offset-items in
    let offsets = r.ensures.offsets in
    let i = c.loop-offset.offset-index in
    let h = subst (λ (s : PlanState). IsTouched s old c.loop-offset.marks c.args.frame x i) (sym view)
    c.loop-offset.invariant.touched in
    let room = subst (λ (s : PlanState). length c.loop-offset.marks ≡ item_count s.circuit s.frames) (sym view)
    c.loop-offset.invariant.room in
    let first = c.first_position-first.ensures.first in
    let items = c.items-items.ensures.items in
    let position = c.first_position-first.result + get_or r.result.now i 0 in
    let same : get_or r.result.now i 0 ≡ offset_at p x i = ap (λ (l : List ℕ). get_or l i 0) offsets in
    let is : position ≡ c.args.frame * frame_items p.circuit + offset_at p x i = omega (arith, first, same) in
    elim c.if-position-items.branch [
      | then-position-items w ↦
          let marks = w.marks-is ∙ w.insert.ensures in
          let less = w.if-position-items.true in
          record {
            room = ap (λ (m : List Bool). length m) marks ∙ (length-set _ _ _ ∙ c.loop-offset.invariant.room);
            touched = subst (λ (s : PlanState). IsTouched s old c.if-position-items.marks c.args.frame x (i + 1)) view
                (touched_more p old c.loop-offset.marks c.args.frame x i position r.ensures.apart is h
                c.if-position-items.marks r.ensures.table
                (subst (λ (l : List ℕ). i < length l) offsets c.loop-offset-test.true)
                (omega (arith, less, items)) (omega (arith, less, items, room)) marks);
          }
      | else-position-items w ↦
          let past = w.if-position-items.false in
          record {
            room = ap (λ (m : List Bool). length m) w.marks-is ∙ c.loop-offset.invariant.room;
            touched = subst (λ (s : PlanState). IsTouched s old c.if-position-items.marks c.args.frame x (i + 1)) view
                (subst (λ (m : List Bool). IsTouched p old m c.args.frame x (i + 1)) (sym w.marks-is)
                (touched_past p old c.loop-offset.marks c.args.frame x i position r.ensures.apart is h
                (omega (arith, past, items))));
          }
    ]

-- what the loop has touched, under the plan as the core has it
touched : (c : goal.After-loop-offset) → IsTouched c.self.inside.plan c.self.inside.marks
    c.loop-offset.marks c.args.frame c.args.net.0 c.loop-offset.offset-index
touched c = subst (λ (s : PlanState). IsTouched s c.self.inside.marks c.loop-offset.marks c.args.frame c.args.net.0
    c.loop-offset.offset-index) (sym (ap (λ (s : CoreState). s.plan) c.self.view_is)) c.loop-offset.invariant.touched

pub returns-clause-more : goal.returns-clause-more
returns-clause-more c = subst (λ (s : CoreState). (y : ℕ) → IsPending s y
    → IsPending (record { plan = c.self.inside.plan; marks = c.loop-offset.marks }) y)
    c.self.view_is (touched c).more

pub returns-clause-loads : goal.returns-clause-loads
returns-clause-loads c =
    let r = c.load_offsets-offset-items in
    let t = c.loop-offset-test.false in
    let end = c.loop-offset.auto.offset-index-end in
    subst (λ (s : CoreState). (y : ℕ) → IsReader s.plan.circuit s.plan.frames c.args.frame c.args.net.0 y
    → IsPending (record { plan = c.self.inside.plan; marks = c.loop-offset.marks }) y) c.self.view_is
    (touched_all c.self.inside.plan c.self.inside.marks c.loop-offset.marks c.args.frame c.args.net.0
    c.loop-offset.offset-index r.ensures.table
    (subst (λ (l : List ℕ). c.loop-offset.offset-index ≡ length l) r.ensures.offsets (omega (arith, t, end)))
    (touched c))

pub returns-clause-only : goal.returns-clause-only
returns-clause-only c = subst (λ (s : CoreState). (y : ℕ) → y < core_items s
    → IsPending (record { plan = c.self.inside.plan; marks = c.loop-offset.marks }) y
    → IsPending s y ⊎ IsReader s.plan.circuit s.plan.frames c.args.frame c.args.net.0 y)
    c.self.view_is (touched c).only
