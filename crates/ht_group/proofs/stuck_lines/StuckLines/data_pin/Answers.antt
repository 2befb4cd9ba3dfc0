use Rattle.std.proofs.Common.{◌<◌, ◌∙◌, ap, arith, get_or, length, ℕ}
use Rattle.std.proofs.lemmas.List.{get_or_read}
use Rattle.ht_lanes.specs.Lanes.{Lanes, lane, stuck_lanes}
use Rattle.ht_net.specs.Frames.Faults.{is_data_pin}
use Rattle.ht_group.specs.StuckTables.{dff_slot, slot_count}
use Rattle.ht_group.proofs.StuckLaws.{slot_forces, slot_is_data_pin}
use Rattle.ht_group.proofs.stuck_lines.StuckLines.data_pin.Goals as goal

pub returns : goal.returns
returns c k below =
    let lines = c.args.self.now in
    let n = c.args.circuit.now in
    let t = c.requires.stuck.table in
    let slot = c.slot_of_dff.ensures in
    let within : dff_slot c.args.circuit.now c.args.dff < slot_count c.args.circuit.now = omega (arith, c.requires.dff)
    in
    let inside : c.slot_of_dff.result < length lines.table.items = omega (arith, slot, within, t.count) in
    let entry = get_or_read lines.table.items c.slot_of_dff.result c.index.result.now inside c.index.ensures 0 in
    ap (λ (w : Lanes). lane w k) c.stick.ensures ∙ (ap (λ m. lane (stuck_lanes m lines.ones c.args.word) k)
    (entry ∙ ap (λ (i : ℕ). get_or lines.table.items i 0) slot)
    ∙ slot_forces c.args.circuit.now lines.faults.items lines.ones lines.table.items t
    (dff_slot c.args.circuit.now c.args.dff) within (λ s. is_data_pin s c.args.dff)
    (λ s at. slot_is_data_pin c.args.circuit.now c.args.dff s at) c.args.word k below)
