use Rattle.ht_compact.specs.GradedLists.{AreOpenBelow}
use Rattle.ht_compact.proofs.trial.open_faults.Given as goal

abbrev pub invariant-loop-k : goal.invariant-loop-k
invariant-loop-k l = AreOpenBelow l.histories l.from l.k l.which.items
