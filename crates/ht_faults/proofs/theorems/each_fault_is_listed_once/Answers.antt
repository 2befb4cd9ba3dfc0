use Rattle.ht_faults.proofs.DistinctLaws.{faults_differ}
use Rattle.ht_faults.proofs.theorems.each_fault_is_listed_once.Goals as goal

pub returns : goal.returns
returns c = faults_differ
