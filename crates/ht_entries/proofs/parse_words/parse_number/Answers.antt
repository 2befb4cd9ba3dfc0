use Rattle.ht_entries.proofs.ParsedLaws.{no_number, no_zero}
use Rattle.ht_entries.proofs.parse_words.parse_number.Goals as goal

pub returns-in_err-number : goal.returns-in_err-number
returns-in_err-number c = rw c.from_residual.ensures (no_number c.args.text.now c.in_err-number.ensures)

pub returns-then-number-eq0 : goal.returns-then-number-eq0
returns-then-number-eq0 c = no_zero c.args.text.now c.in_ok-number.number c.in_ok-number.ensures c.if-number-eq0.true
