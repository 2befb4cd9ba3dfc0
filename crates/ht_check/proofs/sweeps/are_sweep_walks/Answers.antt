use Rattle.std.proofs.lemmas.Grind.{elements}
use Rattle.std.proofs.Common.{arith}
use Rattle.ht_check.proofs.sweeps.are_sweep_walks.Goals as goal

pub returns-then-not-branch-clause-swept : goal.returns-then-not-branch-clause-swept
returns-then-not-branch-clause-swept c = grind (arith, elements)
