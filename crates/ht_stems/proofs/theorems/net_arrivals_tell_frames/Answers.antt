use Rattle.ht_stems.proofs.ArrivalLaws.{arrival_shows}
use Rattle.ht_stems.proofs.theorems.net_arrivals_tell_frames.Goals as goal

pub returns : goal.returns
returns t = λ c vector latches good x v a circuit are known arrives.
    arrival_shows c circuit vector latches good are x v a arrives known
