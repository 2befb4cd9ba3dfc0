use Rattle.ht_slow.proofs.DetectLaws.{good_terns, good_bits}
use Rattle.ht_slow.proofs.theorems.expanded_good_machine_shows_the_same.Goals as goal

pub returns-clause-terns : goal.returns-clause-terns
returns-clause-terns c = good_terns

pub returns-clause-bits : goal.returns-clause-bits
returns-clause-bits c = good_bits
