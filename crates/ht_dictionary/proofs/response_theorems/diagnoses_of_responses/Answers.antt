use Rattle.ht_dictionary.proofs.ConsistencyLaws.{good_diagnosed, fault_diagnosed}
use Rattle.ht_dictionary.proofs.response_theorems.diagnoses_of_responses.Goals as goal

pub returns-clause-good : goal.returns-clause-good
returns-clause-good c = good_diagnosed

pub returns-clause-fault : goal.returns-clause-fault
returns-clause-fault c = fault_diagnosed
