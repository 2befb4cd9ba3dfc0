use Rattle.std.proofs.lemmas.Grind.{moves}
use Rattle.std.proofs.Common.{arith}
use Rattle.ht_check.proofs.invariants.are_closed.Goals as goal

pub returns-clause-closed : goal.returns-clause-closed
returns-clause-closed c = grind (arith, moves)
