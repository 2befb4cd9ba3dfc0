use Rattle.std.proofs.Common.{◌≡◌, ◌≤◌}
use Rattle.ht_full.specs.Known.{AreOfOne, KnowsMore}
use Rattle.ht_full.proofs.sets.SetsBlock.run.Given as goal

-- what is known went on, and no more was taken than was left
abbrev pub invariant-faults : goal.invariant-faults
invariant-faults l = record {
  known : KnowsMore l.fn.known l.known;
  same : AreOfOne l.fn.known l.known;
  circuit : l.self.search.circuit ≡ l.fn.self.search.circuit;
  start : l.self.search.start ≡ l.fn.self.search.start;
  spent : l.after ≤ l.left;
}
