use Rattle.ht_records.proofs.ClosingLaws.{closed_keeps}
use Rattle.ht_records.proofs.theorems.clauses.closed_clause_is_kept.Goals as goal

pub returns : goal.returns
returns c = closed_keeps
