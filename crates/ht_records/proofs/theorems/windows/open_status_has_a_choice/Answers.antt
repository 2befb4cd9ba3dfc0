use Rattle.ht_tree.proofs.PickLaws.{open_has_choice}
use Rattle.ht_records.proofs.theorems.windows.open_status_has_a_choice.Goals as goal

pub returns : goal.returns
returns c = open_has_choice
