use Rattle.std.proofs.Common.{◌<◌, ◌∙◌, ap, arith, get_or, length, ℕ}
use Rattle.std.proofs.lemmas.List.{get_or_read}
use Rattle.ht_items.specs.Bits.{is_set}
use Rattle.ht_group.specs.StuckTables.{gate_slot, slot_count}
use Rattle.ht_group.proofs.StuckLaws.{gate_lanes_are}
use Rattle.ht_group.proofs.stuck_lines.StuckLines.at_gate.Goals as goal

pub returns : goal.returns
returns c k below =
    let lines = c.args.self.now in
    let t = c.requires.stuck.table in
    let slot = c.slot_of_gate.ensures in
    let within : gate_slot c.args.circuit.now c.args.g < slot_count c.args.circuit.now = omega (arith, c.requires.gate)
    in
    let inside : c.slot_of_gate.result < length lines.table.items = omega (arith, slot, within, t.count) in
    let entry = get_or_read lines.table.items c.slot_of_gate.result c.index.result.now inside c.index.ensures 0 in
    ap (λ (n : ℕ). is_set n k) (entry ∙ ap (λ (i : ℕ). get_or lines.table.items i 0) slot)
    ∙ gate_lanes_are c.args.circuit.now lines.faults.items lines.ones lines.table.items t c.args.g k c.requires.gate
    below
