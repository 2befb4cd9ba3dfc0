use Rattle.ht_causes.proofs.CauseLaws.{detected_excited, possible_excited, stored_excited}
use Rattle.ht_causes.proofs.theorems.detected_faults_are_excited.Goals as goal

pub returns-clause-detected : goal.returns-clause-detected
returns-clause-detected c = λ d fault start list p circuit h. detected_excited d circuit fault start list p h

pub returns-clause-possible : goal.returns-clause-possible
returns-clause-possible c = λ d fault start list p circuit h. possible_excited d circuit fault start list p h

pub returns-clause-stored : goal.returns-clause-stored
returns-clause-stored c = λ d fault start list p circuit h. stored_excited d circuit fault start list p h
