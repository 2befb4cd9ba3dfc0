use Rattle.std.specs.Vec.{with_items}
use Rattle.std.proofs.Common.{◌≡◌, ◌∙◌, ap, arith, set, get_or, length, true}
use Rattle.std.proofs.lemmas.List.{with_items_is}
use Rattle.ht_items.specs.Bits.{with_bit}
use Rattle.ht_group.proofs.StuckLaws.{fault_more}
use Rattle.ht_group.proofs.stuck_lines.StuckLines.add.Goals as goal

pub returns-clause-stuck : goal.returns-clause-stuck
returns-clause-stuck c =
    let lines = c.args.self.now in
    let s = c.slot_of.result in
    let m = length lines.faults.items in
    let at : c.len-k.result ≡ length lines.faults.items = omega (arith, c.len-k.ensures) in
    let old = c.deref_mut.ensures.value in
    let table : (with_items lines.table c.write_lane.new.table).items
    ≡ set lines.table.items s (with_bit (get_or lines.table.items s 0) m true) =
    with_items_is lines.table c.write_lane.new.table (omega arith)
    ∙ (c.write_lane.ensures ∙ (λ i. set (old i) s (with_bit (get_or (old i) s 0) (at i) true))) in
    record {
      circuit = c.requires.stuck.circuit;
      table = fault_more c.args.circuit.now lines.faults.items lines.ones lines.table.items c.args.fault s
          c.push.new.self.items c.with_bit-self.result _ c.requires.stuck.table c.requires.room c.requires.site
          c.slot_of.ensures.slot c.slot_of.ensures.within c.in_ok-push.ensures.items
          (c.with_bit-self.ensures ∙ ap (λ n. with_bit lines.ones n c.args.fault.value) at) table;
    }
