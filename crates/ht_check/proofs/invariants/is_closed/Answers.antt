use Rattle.ht_check.proofs.KnownLaws.{each_known_in, known_in}
use Rattle.ht_check.proofs.invariants.is_closed.Goals as goal

pub closing-requires-clause-clause : goal.closing-requires-clause-clause
closing-requires-clause-clause c =
    known_in c.in_ok-take.field-0 c.args.kept.now c.in_ok-take.ensures.taken c.args.clause.now c.requires.clause

pub closing-requires-clause-clauses : goal.closing-requires-clause-clauses
closing-requires-clause-clauses c =
    each_known_in c.in_ok-take.field-0 c.args.kept.now c.in_ok-take.ensures.taken c.args.clauses.now c.requires.clauses
