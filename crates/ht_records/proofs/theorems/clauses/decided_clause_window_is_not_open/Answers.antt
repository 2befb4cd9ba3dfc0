use Rattle.ht_records.proofs.ChoiceLaws.{decided_not_open}
use Rattle.ht_records.proofs.theorems.clauses.decided_clause_window_is_not_open.Goals as goal

pub returns : goal.returns
returns c = decided_not_open
