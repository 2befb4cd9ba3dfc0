use Rattle.ht_slow.proofs.DetectLaws.{all_unknown, silent_alike}
use Rattle.ht_slow.proofs.theorems.refutations_speak_of_transition_faults.Goals as goal

pub returns-clause-unknown : goal.returns-clause-unknown
returns-clause-unknown c = all_unknown

pub returns-clause-silent : goal.returns-clause-silent
returns-clause-silent c = silent_alike
