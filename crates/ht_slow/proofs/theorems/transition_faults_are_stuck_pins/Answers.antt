use Rattle.ht_slow.proofs.DetectLaws.{stuck_terns, stuck_bits}
use Rattle.ht_slow.proofs.theorems.transition_faults_are_stuck_pins.Goals as goal

pub returns-clause-terns : goal.returns-clause-terns
returns-clause-terns c = stuck_terns

pub returns-clause-bits : goal.returns-clause-bits
returns-clause-bits c = stuck_bits
