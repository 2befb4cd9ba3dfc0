use Rattle.ht_stems.proofs.FaultFrames.{pin_shows}
use Rattle.ht_stems.proofs.theorems.pin_fault_is_a_forced_net.Goals as goal

pub returns : goal.returns
returns t = λ c vector latches good g i bit circuit are line.
    pin_shows c circuit vector latches good are g i bit line.0
