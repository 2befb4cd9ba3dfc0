use Rattle.std.proofs.Common.{ap, ◌∙◌}
use Rattle.ht_tern.specs.declared.tern.Tern.TheVariants.{Unk}
use Rattle.ht_lanes.specs.Lanes.{Lanes, lane, every_lane}
use Rattle.ht_lanes.proofs.LaneLaws.{gate_at_lane}
use Rattle.ht_lanes.proofs.gate.eval_word.Goals as goal

pub returns-clause-lanes : goal.returns-clause-lanes
returns-clause-lanes c k h = ap (λ (w : Lanes). lane w k) (c.eval_over.ensures (every_lane Unk))
    ∙ gate_at_lane k h c.args.kind c.args.args.now
