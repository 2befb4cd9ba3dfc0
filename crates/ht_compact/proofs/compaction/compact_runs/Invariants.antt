use Rattle.std.proofs.Common.{◌≡◌, length}
use Rattle.ht_compact.specs.Rounds.{rounds_of}
use Rattle.ht_compact.specs.Compacts.{serves}
use Rattle.ht_compact.specs.GradedLists.{AreGradedVectors}
use Rattle.ht_compact.proofs.compaction.compact_runs.Given as goal

abbrev pub invariant-loop-recent : goal.invariant-loop-recent
invariant-loop-recent l = record {
  circuit : l.frame.group.circuit ≡ l.circuit;
  graded : AreGradedVectors l.circuit l.kept;
  wanted : l.kept.wanted.items ≡ l.initial.kept.wanted.items;
  rounds : rounds_of (serves l.circuit l.initial.kept.wanted.items) l.most l.initial.kept.vectors.list
      ≡ rounds_of (serves l.circuit l.initial.kept.wanted.items) l.most l.kept.vectors.list;
}

abbrev pub decreases-loop-recent : goal.decreases-loop-recent
decreases-loop-recent l = length l.kept.vectors.list
