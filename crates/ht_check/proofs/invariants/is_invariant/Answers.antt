use Rattle.std.proofs.lemmas.Grind.{moves}
use Rattle.std.proofs.Common.{arith}
use Rattle.ht_check.proofs.invariants.is_invariant.Goals as goal

pub returns-clause-invariant : goal.returns-clause-invariant
returns-clause-invariant c = grind (arith, moves)
