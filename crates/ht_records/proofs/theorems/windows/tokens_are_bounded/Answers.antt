use Rattle.ht_tree.proofs.CountLaws.{count}
use Rattle.ht_records.proofs.theorems.windows.tokens_are_bounded.Goals as goal

pub returns : goal.returns
returns c = count
