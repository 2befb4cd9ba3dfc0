use Rattle.ht_dictionary.proofs.ConsistencyLaws.{members_contradicted}
use Rattle.ht_dictionary.proofs.theorems.members_are_contradicted_alike.Goals as goal

pub returns : goal.returns
returns c = members_contradicted
