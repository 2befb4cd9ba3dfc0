use Rattle.std.specs.Vec.{with_items}
use Rattle.std.proofs.Common.{◌≡◌, ◌∙◌, arith, set, get_or, length, false}
use Rattle.std.proofs.lemmas.List.{with_items_is}
use Rattle.ht_items.specs.Bits.{with_bit}
use Rattle.ht_group.proofs.StuckLaws.{fault_less}
use Rattle.ht_group.proofs.stuck_lines.StuckLines.pop.Goals as goal

pub returns-in-Some-clause-stuck : goal.returns-in-Some-clause-stuck
returns-in-Some-clause-stuck c =
    let lines = c.args.self.now in
    let left = c.pop.new.self.items in
    let s = c.slot_of.result in
    let at : c.len-k.result ≡ length c.pop.new.self.items = omega (arith, c.len-k.ensures) in
    let old = c.deref_mut.ensures.value in
    let table : (with_items lines.table c.write_lane.new.table).items
    ≡ set lines.table.items s (with_bit (get_or lines.table.items s 0) (length left) false) =
    with_items_is lines.table c.write_lane.new.table (omega arith)
    ∙ (c.write_lane.ensures ∙ (λ i. set (old i) s (with_bit (get_or (old i) s 0) (at i) false))) in
    record {
      circuit = c.requires.circuit;
      table = fault_less c.args.circuit.now left lines.ones lines.table.items c.in-Some.fault s lines.faults.items _
          c.requires.table c.in-Some.ensures.items c.slot_of.ensures.slot c.slot_of.ensures.within table;
    }
