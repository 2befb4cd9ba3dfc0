use Rattle.std.proofs.Common.{refl}
use Rattle.ht_net.specs.Frames.Faults.{forced}
use Rattle.ht_cubes.proofs.theorems.toggle_has_its_formula.Goals as goal

pub returns : goal.returns
unfolding forced
returns c = refl
