use Rattle.ht_solver.specs.Efforts.{IsNoMore}
use Rattle.ht_reach.proofs.search.Search.push_on.Given as goal

abbrev pub invariant-loop-cube : goal.invariant-loop-cube
invariant-loop-cube l = IsNoMore l.self.left l.fn.self.left
