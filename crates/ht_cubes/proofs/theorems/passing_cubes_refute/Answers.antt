use Rattle.ht_cubes.proofs.RefuteLaws.{cubes_refute}
use Rattle.ht_cubes.proofs.theorems.passing_cubes_refute.Goals as goal

pub returns : goal.returns
returns c n fault start cubes steps circuit h = cubes_refute n circuit fault start cubes steps h
