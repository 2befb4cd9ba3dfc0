use Rattle.ht_solver.specs.Efforts.{IsNoMore}
use Rattle.ht_reach.proofs.search.Search.run.Given as goal

abbrev pub invariant-loop : goal.invariant-loop
invariant-loop l = IsNoMore l.self.left l.fn.self.left
