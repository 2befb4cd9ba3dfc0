use Rattle.std.proofs.lemmas.Grind.{common_steps}
use Rattle.std.proofs.Common.{arith}
use Rattle.ht_check.proofs.told_chains.told_states.Goals as goal

pub returns : goal.returns
returns c = grind (arith, common_steps)
