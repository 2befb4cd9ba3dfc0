use Rattle.ht_tree.proofs.DifferenceCountLaws.{undecided_measures}
use Rattle.ht_records.proofs.theorems.windows.undecided_variables_are_left.Goals as goal

pub returns : goal.returns
returns c = undecided_measures
