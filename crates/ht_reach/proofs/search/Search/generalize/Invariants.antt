use Rattle.ht_solver.specs.Efforts.{IsNoMore}
use Rattle.ht_reach.proofs.search.Search.generalize.Given as goal

abbrev pub invariant-loop-variable : goal.invariant-loop-variable
invariant-loop-variable l = IsNoMore l.self.left l.fn.self.left
