use Rattle.std.proofs.Common.{ℕ, List, map, ◌∙◌, ap, arith, subst}
use Rattle.ht_events.specs.Ranks.{AreRanked}
use Rattle.ht_events.specs.FramePlans.{offset_among}
use Rattle.ht_events.proofs.OffsetLaws.{placed_table}
use Rattle.ht_events.proofs.frame_plan.FramePlan.new.Goals as goal

pub invariant_of-result : goal.invariant_of-result
invariant_of-result c =
    let circuit = c.args.circuit.now in
    let order = c.in_ok-order.order.items in
    let ranks = c.in_ok-order.ranks.items in
    let rows = c.in_ok-readers.readers in
    let dffs = c.dffs-dffs.result in
    let many = c.dffs-dffs.ensures in
    let gates = c.gates.ensures in
    let items = c.new-2.ensures in
    record {
      circuit = c.nets.ensures.circuit;
      table = placed_table circuit ranks rows c.place.new.self dffs many c.in_ok-readers.ensures
          (c.place.ensures ∙ ap (λ (r : List ℕ). map (map (offset_among r dffs)) rows) c.deref.ensures.value);
      frame_length = omega (arith, many, gates, items);
      ranking = subst (λ (n : ℕ). AreRanked circuit n order ranks) many c.in_ok-order.ensures.ranked;
    }
