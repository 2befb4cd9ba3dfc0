use Rattle.ht_stems.proofs.ArrivalLaws.{own_shows}
use Rattle.ht_stems.proofs.theorems.own_value_changes_nothing.Goals as goal

pub returns : goal.returns
returns t = λ c vector latches good x circuit are known.
    own_shows c circuit vector latches x (good x) (are.value x known)
