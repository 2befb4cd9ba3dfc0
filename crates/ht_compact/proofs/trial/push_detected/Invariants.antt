use Rattle.std.specs.List.{All}
use Rattle.ht_compact.specs.GradedLists.{IsOpenFrom}
use Rattle.ht_compact.proofs.trial.push_detected.Given as goal

abbrev pub invariant-loop-k : goal.invariant-loop-k
invariant-loop-k l = All (IsOpenFrom l.histories l.part.from) l.hard.items
