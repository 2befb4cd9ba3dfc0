use Rattle.ht_tree.proofs.HalfLaws.{good_half_first}
use Rattle.ht_records.proofs.theorems.windows.good_half_comes_first.Goals as goal

pub returns : goal.returns
returns c = good_half_first
