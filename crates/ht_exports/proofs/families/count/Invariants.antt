use Rattle.std.specs.Prelude.{◌≤◌}
use Rattle.ht_exports.proofs.families.count.Given as goal

abbrev pub invariant-loop-i : goal.invariant-loop-i
invariant-loop-i l = l.closed ≤ l.i
