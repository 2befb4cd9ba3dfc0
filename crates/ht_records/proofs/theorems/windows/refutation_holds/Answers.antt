use Rattle.ht_tree.proofs.RefutationLaws.{refuted}
use Rattle.ht_records.proofs.theorems.windows.refutation_holds.Goals as goal

pub returns : goal.returns
returns c = refuted
