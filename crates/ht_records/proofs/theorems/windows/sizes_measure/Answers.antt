use Rattle.ht_tree.proofs.LeftLaws.{sizes_measure}
use Rattle.ht_records.proofs.theorems.windows.sizes_measure.Goals as goal

pub returns : goal.returns
returns c = sizes_measure
