use Rattle.std.proofs.Common.{◌≤◌}
use Rattle.ht_full.specs.Known.{KnowsMore}
use Rattle.ht_full.proofs.full.FullSearch.run.Given as goal

abbrev pub decreases-chunks : goal.decreases-chunks
decreases-chunks l = l.self.left

-- the search went on within the work that was left
abbrev pub invariant-chunks : goal.invariant-chunks
invariant-chunks l = record {
  known : KnowsMore l.fn.self.known l.self.known;
  within : l.self.left ≤ l.fn.self.left;
}
