use Rattle.std.proofs.lemmas.Grind.{common_steps}
use Rattle.std.proofs.Common.{arith}
use Rattle.ht_entries.proofs.grow.grow_aimed.Goals as goal

pub returns-in_err-grow_aim-in_default : goal.returns-in_err-grow_aim-in_default
returns-in_err-grow_aim-in_default c = grind (arith, common_steps)

pub returns-in-Sweep : goal.returns-in-Sweep
returns-in-Sweep c = grind (arith, common_steps)
