use Rattle.ht_faults.proofs.RunLaws.{representative_detected}
use Rattle.ht_faults.proofs.class_theorems.representatives_stand_for_members.Goals as goal

pub returns : goal.returns
returns c = representative_detected
