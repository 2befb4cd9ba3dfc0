use Rattle.std.proofs.Common.{◌≡◌, drop}
use Rattle.std.specs.List.{list_all}
use Rattle.ht_tree.specs.Clause.Clauses.{literals_of_each, path_meets}
use Rattle.ht_invariant.proofs.literals.meets_each.Given as goal

abbrev pub invariant-loop-clause : goal.invariant-loop-clause
invariant-loop-clause l =
    list_all (path_meets l.window.window.circuit l.window.decisions) (literals_of_each l.clauses)
    ≡ list_all (path_meets l.window.window.circuit l.window.decisions)
    (literals_of_each (drop l.clause-index l.clauses))
