use Rattle.ht_compact.specs.Runs.{SomeJoined}
use Rattle.ht_compact.proofs.run.join_each.Given as goal

abbrev pub invariant-loop-j : goal.invariant-loop-j
invariant-loop-j l = SomeJoined l.histories l.t l.initial.grades l.grades l.initial.runners l.runners
