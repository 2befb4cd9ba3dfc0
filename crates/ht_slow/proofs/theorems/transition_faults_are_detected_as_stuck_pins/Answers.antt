use Rattle.ht_slow.proofs.DetectLaws.{detected_alike, first_alike, undetectable_alike}
use Rattle.ht_slow.proofs.theorems.transition_faults_are_detected_as_stuck_pins.Goals as goal

pub returns-clause-detected : goal.returns-clause-detected
returns-clause-detected c = detected_alike

pub returns-clause-first : goal.returns-clause-first
returns-clause-first c = first_alike

pub returns-clause-undetectable : goal.returns-clause-undetectable
returns-clause-undetectable c = undetectable_alike
