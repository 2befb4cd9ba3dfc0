use Rattle.std.proofs.Common.{◌≡◌}
use Rattle.ht_sets.proofs.growth.Growth.write.Given as goal

abbrev pub invariant-loop-reader : goal.invariant-loop-reader
invariant-loop-reader l = l.self.left ≡ l.fn.self.left
