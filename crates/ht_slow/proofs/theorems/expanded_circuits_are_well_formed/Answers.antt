use Rattle.ht_slow.proofs.NameListLaws.{well_formed}
use Rattle.ht_slow.proofs.theorems.expanded_circuits_are_well_formed.Goals as goal

pub returns : goal.returns
returns c = well_formed
