use Rattle.ht_dictionary.proofs.ConsistencyLaws.{shown_consistent}
use Rattle.ht_dictionary.proofs.response_theorems.responses_are_consistent.Goals as goal

pub returns : goal.returns
returns c = shown_consistent
