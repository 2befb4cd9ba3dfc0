use Rattle.ht_tree.proofs.LeftLaws.{latches_left}
use Rattle.ht_records.proofs.theorems.windows.latches_count_two.Goals as goal

pub returns : goal.returns
returns c = latches_left
