use Rattle.ht_causes.proofs.CauseLaws.{excited_rows, shows_nothing, tells_all}
use Rattle.ht_causes.proofs.theorems.unexcited_faults_change_nothing.Goals as goal

pub returns-clause-tells : goal.returns-clause-tells
returns-clause-tells c = λ d fault start list circuit none. tells_all d circuit fault start list none

pub returns-clause-shows : goal.returns-clause-shows
returns-clause-shows c = λ d fault start list circuit none. shows_nothing d circuit fault start list none

pub returns-clause-rows : goal.returns-clause-rows
returns-clause-rows c = λ d fault start list circuit. excited_rows d circuit fault start list
