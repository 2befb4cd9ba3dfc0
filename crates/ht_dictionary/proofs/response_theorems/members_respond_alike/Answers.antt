use Rattle.ht_dictionary.proofs.ConsistencyLaws.{members_shown}
use Rattle.ht_dictionary.proofs.response_theorems.members_respond_alike.Goals as goal

pub returns : goal.returns
returns c = members_shown
