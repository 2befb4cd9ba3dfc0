use Rattle.ht_judge.proofs.JudgedLaws.{followed_is_valid}
use Rattle.ht_judge.proofs.theorems.followed_files_are_valid.Goals as goal

pub returns : goal.returns
returns d = followed_is_valid
