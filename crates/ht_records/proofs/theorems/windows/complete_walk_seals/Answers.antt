use Rattle.ht_tree.proofs.SealLaws.{walk_seals}
use Rattle.ht_records.proofs.theorems.windows.complete_walk_seals.Goals as goal

pub returns : goal.returns
returns c = walk_seals
