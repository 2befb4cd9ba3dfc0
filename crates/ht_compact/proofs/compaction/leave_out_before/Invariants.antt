use Rattle.std.proofs.Common.{◌≡◌, ◌≤◌, min}
use Rattle.ht_compact.specs.Rounds.{longest_run}
use Rattle.ht_compact.specs.Compacts.{serves}
use Rattle.ht_compact.proofs.compaction.leave_out_before.Given as goal

abbrev pub invariant-loop-count : goal.invariant-loop-count
invariant-loop-count l = record {
  circuit : l.frame.group.circuit ≡ l.circuit;
  same : l.kept ≡ l.initial.kept;
  within : l.count ≤ l.end;
  longest : longest_run (serves l.circuit l.initial.kept.wanted.items) l.initial.kept.vectors.list l.end
      (min l.most l.end)
      ≡ longest_run (serves l.circuit l.initial.kept.wanted.items) l.initial.kept.vectors.list l.end l.count;
}

abbrev pub decreases-loop-count : goal.decreases-loop-count
decreases-loop-count l = l.count
