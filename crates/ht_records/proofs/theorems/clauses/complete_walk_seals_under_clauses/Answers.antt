use Rattle.ht_records.proofs.SealLaws.{walk_seals_in}
use Rattle.ht_records.proofs.theorems.clauses.complete_walk_seals_under_clauses.Goals as goal

pub returns : goal.returns
returns c = walk_seals_in
