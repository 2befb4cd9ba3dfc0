use Rattle.std.proofs.lemmas.Grind.{common_steps}
use Rattle.std.proofs.Common.{arith}
use Rattle.ht_check.proofs.told_chains.is_told_chain.Goals as goal

pub returns-clause-chained : goal.returns-clause-chained
returns-clause-chained c = grind (arith, common_steps)
