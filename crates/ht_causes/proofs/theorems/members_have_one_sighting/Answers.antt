use Rattle.ht_causes.proofs.CauseLaws.{detected_alike, possible_alike, stored_alike}
use Rattle.ht_causes.proofs.theorems.members_have_one_sighting.Goals as goal

pub returns-clause-detected : goal.returns-clause-detected
returns-clause-detected c = λ d f g start list n circuit same. detected_alike d circuit f g same start list n

pub returns-clause-possible : goal.returns-clause-possible
returns-clause-possible c = λ d f g start list n circuit same. possible_alike d circuit f g same start list n

pub returns-clause-stored : goal.returns-clause-stored
returns-clause-stored c = λ d f g start list n circuit same. stored_alike d circuit f g same start list n
