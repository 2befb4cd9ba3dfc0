use Rattle.std.proofs.Common.{◌≡◌}
use Rattle.ht_sets.proofs.growth.Growth.begin.Given as goal

abbrev pub invariant-loop-net : goal.invariant-loop-net
invariant-loop-net l = l.self.left ≡ l.fn.self.left
