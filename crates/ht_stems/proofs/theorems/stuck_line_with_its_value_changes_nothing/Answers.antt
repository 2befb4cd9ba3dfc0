use Rattle.ht_stems.proofs.FaultFrames.{stuck_shows}
use Rattle.ht_stems.proofs.theorems.stuck_line_with_its_value_changes_nothing.Goals as goal

pub returns : goal.returns
returns t = λ c vector latches good fault circuit are.
    stuck_shows c circuit vector latches good are fault
