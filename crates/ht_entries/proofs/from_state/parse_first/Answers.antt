use Rattle.ht_entries.proofs.FromStateTextLaws.{no_first_state}
use Rattle.ht_entries.proofs.from_state.parse_first.Goals as goal

pub returns-in_default-2-clause-none : goal.returns-in_default-2-clause-none
returns-in_default-2-clause-none c = no_first_state c.args.line.now c.in-Some.bits.now c.in-Some.number
    c.in-Some.ensures.0 c.in-Some.ensures.1 (rw c.in_default-2.is at c.in_ok-state.ensures)
