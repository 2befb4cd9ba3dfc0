use Rattle.std.proofs.Common.{◌≤◌}
use Rattle.ht_solver.proofs.state.State.search.Given as goal

abbrev pub invariant-loop : goal.invariant-loop
invariant-loop l = record {
  conflicts : l.self.spent.conflicts ≤ l.most.conflicts;
  propagations : l.self.spent.propagations ≤ l.most.propagations;
}
