use Rattle.std.proofs.Common.{◌<◌, ◌∙◌, ap, arith, length}
use Rattle.std.proofs.lemmas.List.{get_or_read}
use Rattle.ht_lanes.specs.Lanes.{Lanes, lane, stuck_lanes}
use Rattle.ht_net.specs.Frames.Faults.{is_stem}
use Rattle.ht_group.proofs.StuckLaws.{slot_forces, slot_is_stem}
use Rattle.ht_group.proofs.stuck_lines.StuckLines.stem.Goals as goal

pub returns : goal.returns
returns c k below =
    let lines = c.args.self.now in
    let t = c.requires.stuck.table in
    let inside : c.args.net < length lines.table.items = omega (arith, c.requires.net, t.count) in
    let entry = get_or_read lines.table.items c.args.net c.index.result.now inside c.index.ensures 0 in
    ap (λ (w : Lanes). lane w k) c.stick.ensures ∙ (ap (λ n. lane (stuck_lanes n lines.ones c.args.word) k) entry
    ∙ slot_forces c.args.circuit.now lines.faults.items lines.ones lines.table.items t c.args.net
    (omega (arith, c.requires.net)) (λ s. is_stem s c.args.net)
    (λ s at. slot_is_stem c.args.circuit.now c.args.net s c.requires.net at) c.args.word k below)
