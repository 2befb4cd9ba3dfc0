use Rattle.std.proofs.Common.{◌≡◌, not, drop}
use Rattle.std.specs.List.{find}
use Rattle.ht_tree.specs.Clause.Clauses.{literals_of_each, path_meets}
use Rattle.ht_invariant.proofs.literals.to_clause.Given as goal

abbrev pub invariant-loop-clause : goal.invariant-loop-clause
invariant-loop-clause l =
    find (λ literals. not (path_meets l.window.window.circuit l.window.decisions literals)) (literals_of_each l.clauses)
    ≡ find (λ literals. not (path_meets l.window.window.circuit l.window.decisions literals))
    (literals_of_each (drop l.clause-index l.clauses))
