use Rattle.ht_records.proofs.CountLaws.{clause_search_enough}
use Rattle.ht_records.proofs.theorems.clauses.clause_search_is_never_spent.Goals as goal

pub returns : goal.returns
returns c = clause_search_enough
