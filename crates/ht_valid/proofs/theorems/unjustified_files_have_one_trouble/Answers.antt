use Rattle.ht_valid.proofs.TroubleLaws.{one_unjustified}
use Rattle.ht_valid.proofs.theorems.unjustified_files_have_one_trouble.Goals as goal

pub returns : goal.returns
returns d = one_unjustified
