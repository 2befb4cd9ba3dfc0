use Rattle.ht_slow.proofs.ClassLaws.{listed_alone}
use Rattle.ht_slow.proofs.SiteLaws.{listed_is_site}
use Rattle.ht_slow.proofs.theorems.listed_faults_stand_alone.Goals as goal

pub returns-clause-site : goal.returns-clause-site
returns-clause-site c = listed_is_site

pub returns-clause-class : goal.returns-clause-class
returns-clause-class c = listed_alone
