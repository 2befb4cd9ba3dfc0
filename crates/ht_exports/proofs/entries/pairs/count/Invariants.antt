use Rattle.std.proofs.Common.{◌≤◌}
use Rattle.ht_exports.proofs.entries.pairs.count.Given as goal

abbrev pub invariant-loop-pair : goal.invariant-loop-pair
invariant-loop-pair l = l.count ≤ l.pair
