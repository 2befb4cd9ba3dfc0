use Rattle.ht_causes.proofs.CauseLaws.{moves_up}
use Rattle.ht_causes.proofs.theorems.causes_only_move_up.Goals as goal

pub returns : goal.returns
returns c = moves_up
