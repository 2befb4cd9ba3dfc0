use Rattle.ht_invariant.proofs.refutation.refute_from.Goals as goal

pub returns-clause-answer : goal.returns-clause-answer
returns-clause-answer c =
    rw c.as_slice-clauses.ensures at (rw c.in_ok-bases.ensures at c.refute_under-answer.ensures.answer)
