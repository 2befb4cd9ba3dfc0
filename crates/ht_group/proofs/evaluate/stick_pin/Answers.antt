use Rattle.std.proofs.Common.{◌∙◌, ◌&&◌, ap, sym, cond, eqb}
use Rattle.ht_tern.specs.Gate.{tern_of}
use Rattle.ht_group.specs.LaneRules.{lane_env}
use Rattle.ht_group.specs.StuckTables.{is_pin_number}
use Rattle.ht_group.proofs.evaluate.stick_pin.Goals as goal

pub returns-in-GatePin-clause-lanes : goal.returns-in-GatePin-clause-lanes
returns-in-GatePin-clause-lanes c i n below =
    c.write_pin.ensures.lanes i n below
    ∙ ap (λ s. cond (is_pin_number s i && eqb n c.args.k) (tern_of c.args.fault.value) (lane_env n c.args.pins.now i))
    (sym c.in-GatePin.is)
