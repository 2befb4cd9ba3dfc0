use Rattle.ht_stems.proofs.FaultFrames.{together_show}
use Rattle.ht_stems.proofs.theorems.faults_that_arrive_together_show_the_same.Goals as goal

pub returns : goal.returns
returns t = λ c vector latches good fault other a circuit are.
    together_show c circuit vector latches good are fault other a
