use Rattle.ht_stems.proofs.ArrivalLaws.{latch_shows}
use Rattle.ht_stems.proofs.theorems.forced_net_comes_to_its_only_latch.Goals as goal

pub returns : goal.returns
returns t = λ c vector latches x j v circuit. latch_shows c circuit vector latches x j v
