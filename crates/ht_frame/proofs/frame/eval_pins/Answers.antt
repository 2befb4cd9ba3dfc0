use Rattle.std.proofs.Common.{◌∙◌, arith, ap}
use Rattle.ht_net.proofs.FrameLaws.{pins_done}
use Rattle.ht_net.specs.Frames.Frame.{pin_values}
use Rattle.ht_net.specs.Frames.Faults.{rules_of}
use Rattle.ht_frame.specs.Values.{env_of}
use Rattle.ht_frame.proofs.frame.eval_pins.Goals as goal

pub returns : goal.returns
returns g c =
    let r = rules_of g.V.Domain.blank g.V.Domain.gate g.V.Domain.stick c.args.fault in
    let args = c.args.args.now in
    let env = env_of g.V.Domain.blank c.args.values.now in
    c.gate.ensures ∙ ap (g.V.Domain.gate c.args.kind) (pins_done r c.args.g env args c.loop-i.pins c.loop-i.i
    (pin_values r c.args.g env 0 args) (omega arith) c.loop-i.invariant.filled)
