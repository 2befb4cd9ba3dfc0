use Rattle.ht_stems.proofs.FaultFrames.{fault_shows}
use Rattle.ht_stems.proofs.theorems.fault_arrivals_tell_frames.Goals as goal

pub returns : goal.returns
returns t = λ c vector latches good fault a circuit are. fault_shows c circuit vector latches good are fault a
