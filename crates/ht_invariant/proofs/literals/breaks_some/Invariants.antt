use Rattle.std.proofs.Common.{◌≡◌, drop}
use Rattle.std.specs.List.{list_any}
use Rattle.ht_tree.specs.Clause.Clauses.{literals_of_each, path_breaks}
use Rattle.ht_invariant.proofs.literals.breaks_some.Given as goal

abbrev pub invariant-loop-clause : goal.invariant-loop-clause
invariant-loop-clause l =
    list_any (path_breaks l.window.window.circuit l.window.decisions) (literals_of_each l.clauses)
    ≡ list_any (path_breaks l.window.window.circuit l.window.decisions)
    (literals_of_each (drop l.clause-index l.clauses))
