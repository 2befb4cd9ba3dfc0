use Rattle.std.proofs.Common.{◌≡◌}
use Rattle.ht_solver.proofs.state.State.next_assumption.Given as goal

abbrev pub invariant-loop-literal : goal.invariant-loop-literal
invariant-loop-literal l = l.self.spent ≡ l.fn.self.spent
