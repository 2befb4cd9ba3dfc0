use Rattle.std.proofs.Common.{◌<◌, ◌∙◌, ap, arith, length}
use Rattle.ht_lanes.specs.Lanes.{with_lane}
use Rattle.ht_group.proofs.InLaneLaws.{one_lane_written}
use Rattle.ht_group.proofs.evaluate.write_pin.Goals as goal

pub returns-clause-lanes : goal.returns-clause-lanes
returns-clause-lanes c =
    let inside : c.args.pin < length c.args.pins.now = omega (arith, c.ranges.pin.fits, c.requires.room) in
    one_lane_written c.args.pins.now c.args.pin c.index-pins-pin.result c.with.result c.args.k _ inside
    c.index-pins-pin.is (c.with.ensures ∙ ap (with_lane c.index-pins-pin.result c.args.k) c.from.ensures)
