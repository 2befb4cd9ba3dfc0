use Rattle.std.proofs.lemmas.Grind.{common_steps}
use Rattle.std.proofs.Common.{arith}
use Rattle.ht_window.proofs.held.Held.var_place.Goals as goal

pub returns-then-var-frames-clause-net : goal.returns-then-var-frames-clause-net
returns-then-var-frames-clause-net c = grind (arith, common_steps)
