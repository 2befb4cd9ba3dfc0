use Rattle.std.specs.List.{All}
use Rattle.std.proofs.Common.{take}
use Rattle.ht_tree.specs.Clause.Clauses.{IsClause}
use Rattle.ht_check.proofs.state_clauses.are_clauses.Given as goal

abbrev pub invariant-loop-clause : goal.invariant-loop-clause
invariant-loop-clause l = All (IsClause l.circuit) (take l.clause-index l.clauses)
