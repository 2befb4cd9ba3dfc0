use Rattle.ht_solver.specs.Efforts.{IsNoMore}
use Rattle.ht_close.proofs.steps.write_refutation.Given as goal

abbrev pub invariant-loop : goal.invariant-loop
invariant-loop l = IsNoMore l.left l.fn.left
