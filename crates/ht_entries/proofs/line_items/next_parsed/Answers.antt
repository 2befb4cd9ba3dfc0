use Rattle.ht_entries.proofs.ItemLaws.{no_space_no_item, no_word_no_item, word_is_item}
use Rattle.ht_entries.proofs.line_items.next_parsed.Goals as goal

pub returns-in_err-word : goal.returns-in_err-word
returns-in_err-word g c = rw c.from_residual.ensures (no_space_no_item g.W.Word.word_of g.W.Word.HasText
    c.requires c.args.text.now c.in_err-word.ensures)

pub returns-in_err-parsed : goal.returns-in_err-parsed
returns-in_err-parsed g c = rw c.from_residual-in_err-parsed.ensures (no_word_no_item g.W.Word.word_of
    g.W.Word.HasText c.requires c.args.text.now c.in_ok-word.word.now c.in_ok-word.rest.now
    c.in_ok-word.ensures c.in_err-parsed.ensures)

pub returns : goal.returns
returns g c = word_is_item g.W.Word.word_of g.W.Word.HasText c.requires c.args.text.now
    c.in_ok-word.word.now c.in_ok-word.rest.now c.in_ok-parsed.parsed c.in_ok-word.ensures
    c.in_ok-parsed.ensures.0 c.in_ok-parsed.ensures.1
