use Rattle.std.proofs.lemmas.Grind.{common_steps}
use Rattle.std.proofs.Common.{arith}
use Rattle.ht_invariant.proofs.literals.to_clause.Goals as goal

pub to_literal-requires : goal.to_literal-requires
to_literal-requires c = grind (arith, common_steps)
