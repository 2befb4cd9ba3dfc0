use Rattle.ht_entries.proofs.FromStateTextLaws.{no_first_number, no_first_word}
use Rattle.ht_entries.proofs.from_state.number_and_bits.Goals as goal

pub returns-in_err-number : goal.returns-in_err-number
returns-in_err-number c =
    rw c.from_residual-in_err-number.ensures (no_first_number _ _ c.in_ok-rest.ensures c.in_err-number.ensures)

pub returns-in_err-bits : goal.returns-in_err-bits
returns-in_err-bits c = rw c.from_residual-in_err-bits.ensures (no_first_word _ _ _ _ c.in_ok-rest.ensures
    c.in_ok-number.ensures.0 c.in_ok-number.ensures.1 c.in_err-bits.ensures)
