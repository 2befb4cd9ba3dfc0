use Rattle.ht_solver.specs.Efforts.{IsNoMore}
use Rattle.ht_reach.proofs.search.Search.forbid_upward.Given as goal

abbrev pub invariant-loop-before : goal.invariant-loop-before
invariant-loop-before l = IsNoMore l.self.left l.fn.self.left
