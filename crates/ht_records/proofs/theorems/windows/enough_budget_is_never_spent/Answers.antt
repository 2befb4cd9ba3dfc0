use Rattle.ht_tree.proofs.CountLaws.{enough}
use Rattle.ht_records.proofs.theorems.windows.enough_budget_is_never_spent.Goals as goal

pub returns : goal.returns
returns c = enough
