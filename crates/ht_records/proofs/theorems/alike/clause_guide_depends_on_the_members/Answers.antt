use Rattle.ht_records.proofs.UnderLaws.{guide_under_same}
use Rattle.ht_records.proofs.theorems.alike.clause_guide_depends_on_the_members.Goals as goal

pub returns : goal.returns
returns d = guide_under_same
