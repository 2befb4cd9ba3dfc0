use Rattle.ht_entries.proofs.BySetsTextLaws.{no_row_number, no_row_set}
use Rattle.ht_entries.proofs.by_sets.parse_row.Goals as goal

pub returns-in_err-number : goal.returns-in_err-number
returns-in_err-number c =
    rw c.from_residual-in_err-number.ensures (no_row_number _ _ c.in_ok-text.ensures c.in_err-number.ensures)

pub returns-in_err-set : goal.returns-in_err-set
returns-in_err-set c =
    rw c.from_residual-in_err-set.ensures
    (no_row_set _ _ _ _ c.in_ok-text.ensures c.in_ok-number.ensures.0 c.in_ok-number.ensures.1 c.in_err-set.ensures)
