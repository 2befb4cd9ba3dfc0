use Rattle.ht_tree.proofs.PickLaws.{decided_not_open}
use Rattle.ht_records.proofs.theorems.windows.decided_window_is_not_open.Goals as goal

pub returns : goal.returns
returns c = decided_not_open
