use Rattle.ht_compact.proofs.LogLaws.{AreLoggedTo}
use Rattle.ht_compact.proofs.run.log_each.Given as goal

abbrev pub invariant-loop-j : goal.invariant-loop-j
invariant-loop-j l = AreLoggedTo l.undetected l.grades l.j-index l.initial.runners l.runners
