use Rattle.ht_dictionary.proofs.ResponseLaws.{stopped_at}
use Rattle.ht_dictionary.proofs.theorems.first_wrong_response.Goals as goal

pub returns : goal.returns
returns c = stopped_at
