use Rattle.ht_valid.proofs.TroubleLaws.{justified_has_no_trouble}
use Rattle.ht_valid.proofs.theorems.justified_files_have_no_trouble.Goals as goal

pub returns : goal.returns
returns d = justified_has_no_trouble
