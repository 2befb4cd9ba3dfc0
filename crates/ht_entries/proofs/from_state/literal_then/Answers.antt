use Rattle.ht_entries.proofs.FromStateTextLaws.{no_bit_then}
use Rattle.ht_entries.proofs.from_state.literal_then.Goals as goal

pub returns-in_err-rest : goal.returns-in_err-rest
returns-in_err-rest c = rw c.from_residual-in_err-rest.ensures (no_bit_then c.args.text.now c.in_ok-number.rest.now
    c.in_ok-number.number c.in_ok-number.ensures.0 c.in_ok-number.ensures.1 c.in_default.ensures c.in_err-rest.ensures)
