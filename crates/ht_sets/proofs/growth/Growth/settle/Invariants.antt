use Rattle.std.proofs.Common.{◌≤◌}
use Rattle.ht_sets.proofs.growth.Growth.settle.Given as goal

abbrev pub decreases-events : goal.decreases-events
decreases-events l = l.self.left

abbrev pub invariant-events : goal.invariant-events
invariant-events l = l.self.left ≤ l.fn.self.left
