use Rattle.ht_justify.proofs.justification.justify.Goals as goal

pub returns-clause-answer : goal.returns-clause-answer
returns-clause-answer c = rw c.in_ok-bases.ensures at c.justify_from_bases-back.ensures.answer

pub returns-clause-holds : goal.returns-clause-holds
returns-clause-holds c = rw c.in_ok-bases.ensures at c.justify_from_bases-back.ensures.holds
