use Rattle.ht_stems.proofs.FaultFrames.{data_shows}
use Rattle.ht_stems.proofs.theorems.data_pin_fault_is_one_latch.Goals as goal

pub returns : goal.returns
returns t = λ c vector latches j bit circuit. data_shows c circuit vector latches j bit
