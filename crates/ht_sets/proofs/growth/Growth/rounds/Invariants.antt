use Rattle.std.proofs.Common.{◌≤◌}
use Rattle.ht_sets.proofs.growth.Growth.rounds.Given as goal

abbrev pub invariant-loop-round : goal.invariant-loop-round
invariant-loop-round l = l.self.left ≤ l.fn.self.left
