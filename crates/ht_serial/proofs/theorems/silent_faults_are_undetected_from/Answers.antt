use Rattle.ht_net.proofs.SilenceLaws.{all_silent_undetected, silent_undetected_from}
use Rattle.ht_serial.proofs.theorems.silent_faults_are_undetected_from.Goals as goal

pub returns-clause-one : goal.returns-clause-one
returns-clause-one c = silent_undetected_from

pub returns-clause-all : goal.returns-clause-all
returns-clause-all c = all_silent_undetected
