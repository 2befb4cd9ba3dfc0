use Rattle.ht_tree.proofs.PickLaws.{net_has_choice}
use Rattle.ht_records.proofs.theorems.windows.undetermined_net_has_a_choice.Goals as goal

pub returns : goal.returns
returns c = net_has_choice
