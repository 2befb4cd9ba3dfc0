use Rattle.std.proofs.Common.{◌≤◌}
use Rattle.ht_solver.proofs.analysis.put_highest_second.Given as goal

abbrev pub invariant-loop-i : goal.invariant-loop-i
invariant-loop-i l = (1 ≤ l.best) × (l.best ≤ l.i)
