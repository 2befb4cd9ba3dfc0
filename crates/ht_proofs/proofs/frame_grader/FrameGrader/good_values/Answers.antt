use Rattle.std.proofs.Common.{subst}
use Rattle.ht_group.specs.GoodFrames.{AreFrameValues}
use Rattle.ht_proofs.specs.Batches.{BatchView}
use Rattle.ht_proofs.proofs.frame_grader.FrameGrader.good_values.Goals as goal

pub returns : goal.returns
returns c =
    subst (λ (b : BatchView). AreFrameValues b.group.circuit b.group.vector b.group.latches c.good_values.result.now)
    c.self.view_is (record { count = c.good_values.ensures.count; each = c.good_values.ensures.good.value })
