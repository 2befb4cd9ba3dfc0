use Rattle.ht_faults.proofs.MemberLaws.{fault_site}
use Rattle.ht_faults.proofs.theorems.listed_faults_stand_on_sites.Goals as goal

pub returns : goal.returns
returns c = fault_site
