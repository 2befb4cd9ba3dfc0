use Rattle.std.proofs.Common.{◌≡◌}
use Rattle.ht_sets.proofs.growth.Growth.take_all.Given as goal

abbrev pub invariant-loop-dff : goal.invariant-loop-dff
invariant-loop-dff l = l.self.left ≡ l.fn.self.left
