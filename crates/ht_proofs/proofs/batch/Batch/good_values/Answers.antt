use Rattle.std.proofs.Common.{get_or, subst}
use Rattle.ht_tern.specs.declared.tern.Tern.TheVariants.{Unk}
use Rattle.ht_stems.specs.ArrivedFrames.{AreGoodValues}
use Rattle.ht_proofs.specs.Batches.{BatchView}
use Rattle.ht_proofs.proofs.batch.Batch.good_values.Goals as goal

pub returns-clause-good : goal.returns-clause-good
returns-clause-good c =
    subst (λ (b : BatchView). AreGoodValues b.group.circuit b.group.vector b.group.latches
    (λ x. get_or c.good_values.result.now x Unk)) c.self.view_is (record { value = c.good_values.ensures.values })
