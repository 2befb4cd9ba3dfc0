use Rattle.std.proofs.Common.{◌≡◌, ◌≤◌, ◌-◌, length}
use Rattle.ht_compact.specs.Runs.{AreRunners, HaveSamePlaces}
use Rattle.ht_compact.proofs.runners.Runners.run.Given as goal

abbrev pub invariant-loop-t : goal.invariant-loop-t
invariant-loop-t l = record {
  order : l.part.to ≤ l.t;
  within : l.t ≤ length l.graded.vectors.list;
  circuit : l.frame.group.circuit ≡ l.initial.frame.group.circuit;
  run : AreRunners l.initial.frame.group.circuit l.graded l.part.from l.part.to (l.t - l.part.to) l.self;
  places : HaveSamePlaces l.initial.self.runners.items l.self.runners.items;
}
