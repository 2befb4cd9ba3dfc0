use Rattle.std.proofs.Common.{◌≡◌, drop}
use Rattle.ht_group.specs.Differences.{held}
use Rattle.ht_group.proofs.diffs.Diffs.get.Given as goal

abbrev pub invariant-loop-entry : goal.invariant-loop-entry
invariant-loop-entry l = held (drop l.entry-index l.entry-items) l.latch ≡ held l.self l.latch
