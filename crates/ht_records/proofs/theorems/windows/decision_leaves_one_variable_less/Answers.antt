use Rattle.ht_tree.proofs.VariableLaws.{decision_counts, variable_below}
use Rattle.ht_records.proofs.theorems.windows.decision_leaves_one_variable_less.Goals as goal

pub returns : goal.returns
returns c = record { count = decision_counts; bound = variable_below }
