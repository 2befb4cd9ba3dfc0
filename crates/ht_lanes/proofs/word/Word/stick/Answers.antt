use Rattle.std.proofs.Common.{◌∙◌}
use Rattle.ht_lanes.proofs.StuckLaws.{rows_stuck, stuck_apart, none_stuck}
use Rattle.ht_lanes.proofs.word.Word.stick.Goals as goal

pub returns-then-lanes-eq0 : goal.returns-then-lanes-eq0
returns-then-lanes-eq0 c =
    rw c.if-lanes-eq0.true (c.self.view_is
    ∙ none_stuck c.args.self c.self.inside.zero c.self.inside.one c.args.bits c.self.view_is)

pub invariant_of-result-2 : goal.invariant_of-result-2
invariant_of-result-2 c = stuck_apart c.self.inside.zero c.self.inside.one c.args.lanes c.args.bits
    c.ranges.lanes.fits c.ranges.bits.fits c.self.invariant

pub returns : goal.returns
returns c = rows_stuck c.args.self c.self.inside.zero c.self.inside.one c.args.lanes c.args.bits c.ranges.lanes.fits
    c.ranges.bits.fits c.self.view_is
