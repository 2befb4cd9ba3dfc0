use Rattle.ht_stems.proofs.ArrivalLaws.{through_shows}
use Rattle.ht_stems.proofs.theorems.forced_net_goes_on_through_its_only_gate.Goals as goal

pub returns : goal.returns
returns t = λ c vector latches good x g v circuit are.
    through_shows c circuit vector latches good are x g v
