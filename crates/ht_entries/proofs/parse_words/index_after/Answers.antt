use Rattle.ht_entries.proofs.ParsedLaws.{index_is, no_index}
use Rattle.ht_entries.proofs.parse_words.index_after.Goals as goal

pub returns-in_err-number : goal.returns-in_err-number
returns-in_err-number c = rw c.from_residual.ensures (no_index c.args.text.now c.args.word.now c.in_err-number.ensures)

pub returns : goal.returns
returns c = index_is c.args.text.now c.args.word.now c.in_ok-number.number c.in_ok-number.ensures.0
    c.in_ok-number.ensures.1
