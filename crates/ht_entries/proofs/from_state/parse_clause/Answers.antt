use Rattle.std.proofs.Common.{◌≢◌, []}
use Rattle.ht_entries.proofs.FromStateTextLaws.{no_clause}
use Rattle.ht_entries.proofs.ParsedLaws.{some_by}
use Rattle.ht_entries.proofs.from_state.parse_clause.Goals as goal

pub returns-in_err-second-clause-none : goal.returns-in_err-second-clause-none
returns-in_err-second-clause-none c =
    let more : c.in_ok-first.rest.now ≢ [] = some_by c.in_ok-first.rest.now c.if-is_empty.ensures in
    rw c.from_residual-in_err-second.ensures (no_clause c.args.line.now
    c.in_ok-literals.literals.now c.in_ok-first.rest.now c.in_ok-first.first c.in_ok-literals.ensures
    c.in_ok-first.ensures.0 c.in_ok-first.ensures.1 more c.in_err-second.ensures)
