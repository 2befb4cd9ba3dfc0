use Rattle.std.proofs.Common.{◌≤◌, length}
use Rattle.ht_solver.proofs.watches.falsify_row.Given as goal

abbrev pub invariant-loop-i : goal.invariant-loop-i
invariant-loop-i l = (l.kept ≤ l.i) × (l.i-end ≤ length l.row.items)
