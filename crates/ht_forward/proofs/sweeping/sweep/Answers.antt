use Rattle.ht_forward.proofs.sweeping.sweep.Goals as goal

pub returns-clause-answer : goal.returns-clause-answer
returns-clause-answer c = rw c.in_ok-bases.ensures at c.sweep_from_bases.ensures.answer

pub returns-clause-holds : goal.returns-clause-holds
returns-clause-holds c = rw c.in_ok-bases.ensures at c.sweep_from_bases.ensures.holds
