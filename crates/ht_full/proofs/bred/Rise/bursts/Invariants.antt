use Rattle.std.proofs.Common.{◌≤◌}
use Rattle.ht_full.specs.Known.{AreOfOne, KnowsMore}
use Rattle.ht_full.proofs.bred.Rise.bursts.Given as goal

-- what is known went on, and no more was taken than may be
abbrev pub invariant-loop-burst : goal.invariant-loop-burst
invariant-loop-burst l = record {
  known : KnowsMore l.fn.known l.known;
  same : AreOfOne l.fn.known l.known;
  spent : l.self.spent ≤ l.most;
}
