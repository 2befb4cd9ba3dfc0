use Rattle.ht_cubes.proofs.RunLaws.{refuted_undetectable}
use Rattle.ht_cubes.proofs.RefuteLaws.{cubes_refute}
use Rattle.ht_cubes.proofs.theorems.passing_cubes_exclude_detection.Goals as goal

pub returns : goal.returns
returns c n fault start cubes steps circuit is h =
    refuted_undetectable n fault start cubes circuit is (cubes_refute n circuit fault start cubes steps h)
