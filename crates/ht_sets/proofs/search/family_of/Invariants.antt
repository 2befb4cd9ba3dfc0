use Rattle.std.proofs.Common.{◌≡◌, length}
use Rattle.ht_sets.proofs.search.family_of.Given as goal

abbrev pub invariant-loop-dff : goal.invariant-loop-dff
invariant-loop-dff l = length l.family.items ≡ l.dff
