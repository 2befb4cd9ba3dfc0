use Rattle.std.specs.List.{All}
use Rattle.ht_compact.specs.GradedLists.{IsOpenFrom}
use Rattle.ht_compact.proofs.trial.hard_faults.Given as goal

abbrev pub invariant-recent : goal.invariant-recent
invariant-recent l = All (IsOpenFrom l.histories l.part.from) l.hard.items
