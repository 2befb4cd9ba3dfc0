use Rattle.ht_tree.proofs.DifferenceCountLaws.{difference_enough, few_variables}
use Rattle.ht_records.proofs.theorems.windows.difference_search_is_never_spent.Goals as goal

pub returns : goal.returns
returns c = record { never = difference_enough; bound = few_variables }
