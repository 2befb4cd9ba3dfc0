use Rattle.ht_solver.specs.Efforts.{IsNoMore}
use Rattle.ht_reach.proofs.search.Search.push_all.Given as goal

abbrev pub invariant-loop-frame : goal.invariant-loop-frame
invariant-loop-frame l = IsNoMore l.self.left l.fn.self.left
