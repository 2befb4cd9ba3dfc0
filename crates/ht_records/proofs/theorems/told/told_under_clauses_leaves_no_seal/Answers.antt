use Rattle.ht_records.proofs.ChainLaws.{chain_to_output_under}
use Rattle.ht_records.proofs.theorems.told.told_under_clauses_leaves_no_seal.Goals as goal

pub returns : goal.returns
returns d = chain_to_output_under
