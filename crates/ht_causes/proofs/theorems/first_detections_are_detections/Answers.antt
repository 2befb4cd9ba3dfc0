use Rattle.ht_causes.proofs.CauseLaws.{is_first}
use Rattle.ht_causes.proofs.theorems.first_detections_are_detections.Goals as goal

pub returns : goal.returns
returns c = is_first
