use Rattle.ht_compact.specs.Kept.{without_run}
use Rattle.ht_compact.proofs.GradedLaws.{misses_one}
use Rattle.ht_compact.proofs.trial.leave_out_part.Goals as goal

pub returns-in-Some-clause-lost : goal.returns-in-Some-clause-lost
returns-in-Some-clause-lost c = λ is.
    let graded = c.args.graded.now in
    misses_one c.args.circuit.now graded.wanted.items
    (without_run graded.vectors.list c.args.part.from c.args.part.to) c.in-Some.k
    (c.in_ok-k.ensures.lost c.in-Some.k c.in-Some.is)

pub returns-in-Some-2-clause-lost : goal.returns-in-Some-2-clause-lost
returns-in-Some-2-clause-lost c = λ is.
    let graded = c.args.graded.now in
    misses_one c.args.circuit.now graded.wanted.items
    (without_run graded.vectors.list c.args.part.from c.args.part.to) c.in-Some-2.k
    (c.in_ok-k-2.ensures.lost c.in-Some-2.k c.in-Some-2.is)
