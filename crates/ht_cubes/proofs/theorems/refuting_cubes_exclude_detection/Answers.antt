use Rattle.ht_cubes.proofs.RunLaws.{refuted_undetectable}
use Rattle.ht_cubes.proofs.theorems.refuting_cubes_exclude_detection.Goals as goal

pub returns : goal.returns
returns c n fault start cubes circuit is h = refuted_undetectable n fault start cubes circuit is h
