use Rattle.ht_stems.proofs.ArrivalLaws.{unread_shows}
use Rattle.ht_stems.proofs.theorems.forced_net_without_load_changes_nothing.Goals as goal

pub returns : goal.returns
returns t = λ c vector latches x v circuit known. unread_shows c circuit vector latches x v
