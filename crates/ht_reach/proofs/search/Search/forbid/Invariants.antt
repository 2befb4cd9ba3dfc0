use Rattle.std.proofs.Common.{◌≡◌}
use Rattle.ht_reach.proofs.search.Search.forbid.Given as goal

abbrev pub invariant-loop-at : goal.invariant-loop-at
invariant-loop-at l = l.self.left ≡ l.fn.self.left
