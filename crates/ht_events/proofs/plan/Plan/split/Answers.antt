use Rattle.std.proofs.Common.{◌≡◌, ◌<◌, ◌∙◌, arith, ap, subst}
use Rattle.ht_net.specs.Circuit.Netlist.{Netlist}
use Rattle.ht_events.specs.Items.{frame_items, frame_of, item_count, local_of}
use Rattle.ht_events.specs.FramePlans.{FramePlanState}
use Rattle.ht_events.specs.Plans.{PlanState}
use Rattle.ht_events.proofs.ItemLaws.{frame_inside, local_inside}
use Rattle.ht_events.proofs.plan.Plan.split.Goals as goal

inside : (c : goal.After-split) → (c.split.result.0 < c.args.self.now.frames)
    × (c.split.result.1 < frame_items c.args.self.now.circuit)
inside c =
    let a = c.self.inside in
    let item = c.args.item in
    let k : Netlist = a.frame_plan.value.circuit in
    let frame : c.split.result.0 ≡ frame_of k item = c.split.ensures.frame
    ∙ ap (λ (f : FramePlanState). frame_of f.circuit item) c.deref.ensures in
    let local : c.split.result.1 ≡ local_of k item = c.split.ensures.local
    ∙ ap (λ (f : FramePlanState). local_of f.circuit item) c.deref.ensures in
    let P : PlanState → Type 0 = λ (s : PlanState). item < item_count s.circuit s.frames
    → (c.split.result.0 < s.frames) × (c.split.result.1 < frame_items s.circuit) in
    subst P c.self.view_is
    (λ known.
    let f = frame_inside k a.frames item known in
    let l = local_inside k a.frames item known in
    (omega (arith, f, frame), omega (arith, l, local)))
    c.requires

pub returns-clause-frame_inside : goal.returns-clause-frame_inside
returns-clause-frame_inside c = (inside c).0

pub returns-clause-local_inside : goal.returns-clause-local_inside
returns-clause-local_inside c = (inside c).1
