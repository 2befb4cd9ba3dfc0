use Rattle.ht_stems.proofs.ArrivalLaws.{output_shows}
use Rattle.ht_stems.proofs.theorems.forced_net_comes_to_its_only_output.Goals as goal

pub returns : goal.returns
returns t = λ c vector latches x o v circuit. output_shows c circuit vector latches x o v
