use Rattle.std.proofs.Common.{◌≡◌}
use Rattle.ht_reach.proofs.search.Search.forbid_always.Given as goal

abbrev pub invariant-loop-cube : goal.invariant-loop-cube
invariant-loop-cube l = l.self.left ≡ l.fn.self.left
