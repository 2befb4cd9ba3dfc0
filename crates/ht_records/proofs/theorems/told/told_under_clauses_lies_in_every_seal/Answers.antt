use Rattle.ht_records.proofs.ChainLaws.{chain_lies_in_under}
use Rattle.ht_records.proofs.theorems.told.told_under_clauses_lies_in_every_seal.Goals as goal

pub returns : goal.returns
returns d = chain_lies_in_under
