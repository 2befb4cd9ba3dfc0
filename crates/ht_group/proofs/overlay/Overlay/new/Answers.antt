use Rattle.std.proofs.lemmas.Grind.{common_steps}
use Rattle.std.proofs.Common.{arith}
use Rattle.ht_group.proofs.overlay.Overlay.new.Goals as goal

pub splat_all-requires : goal.splat_all-requires
splat_all-requires c = grind (arith, common_steps)

pub returns : goal.returns
returns c = grind (arith, common_steps)
