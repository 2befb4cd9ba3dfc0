use Rattle.std.proofs.Common.{◌≡◌, ◌∙◌, ◌≤◌, ◌-◌, ℕ, get_or, ap, subst, arith}
use Rattle.std.specs.List.{Contains}
use Rattle.ht_events.specs.Items.{driven_net}
use Rattle.ht_relevant.specs.Distances.{number_of}
use Rattle.ht_relevant.proofs.TakenLaws.{gate_taken, dff_taken}
use Rattle.ht_relevant.proofs.follow.take.Goals as goal

pub returns-in_ok-put-clause-taken : goal.returns-in_ok-put-clause-taken
returns-in_ok-put-clause-taken c =
    let p = c.args.frame_plan.now in
    let less = c.if-offset-items.true in
    let items = c.items-items.ensures.items in
    let at : c.net-gate.result.0 ≡ driven_net p.circuit (get_or p.order c.args.offset 0) =
    c.net-gate.ensures.net ∙ ap (driven_net p.circuit) c.item.ensures.item in
    gate_taken p c.item.ensures.ranking c.put.new.self c.args.offset (omega (arith, less, items))
    (subst (λ (x : ℕ). number_of c.put.new.self x ≤ c.put.new.self.distance) at c.in_ok-put.ensures.put)

pub returns-in_ok-put_next-clause-taken : goal.returns-in_ok-put_next-clause-taken
returns-in_ok-put_next-clause-taken c =
    let p = c.args.frame_plan.now in
    let past = c.if-offset-items.false in
    let items = c.items-items.ensures.items in
    let rank = c.args.offset - c.items-items.result in
    let at : c.net-dff.result.0 ≡ driven_net p.circuit (get_or p.order rank 0) =
    c.net-dff.ensures.net ∙ ap (driven_net p.circuit) c.item-else-offset-items.ensures.item in
    dff_taken p c.item-else-offset-items.ensures.ranking c.put_next.new.self c.args.offset rank
    (omega (arith, past, items)) (omega (arith, items))
    (subst (Contains c.put_next.new.self.next) at c.in_ok-put_next.ensures.put)
