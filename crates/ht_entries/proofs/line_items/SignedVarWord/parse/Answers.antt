use Rattle.ht_entries.proofs.CubesTextLaws.{no_negative, no_positive}
use Rattle.ht_entries.proofs.line_items.SignedVarWord.parse.Goals as goal

pub returns-in_err-variable : goal.returns-in_err-variable
returns-in_err-variable c = rw c.from_residual.ensures (no_negative c.args.word.now c.in-Some.digits.now
    c.in-Some.ensures c.in_err-variable.ensures)

pub returns-in_err-variable-2 : goal.returns-in_err-variable-2
returns-in_err-variable-2 c = rw c.from_residual-in_err-variable-2.ensures (no_positive c.args.word.now
    c.in_default.ensures c.in_err-variable-2.ensures)
