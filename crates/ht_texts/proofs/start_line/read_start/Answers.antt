use Rattle.std.proofs.lemmas.Grind.{elements}
use Rattle.std.proofs.Common.{sym, arith}
use Rattle.ht_texts.proofs.StartLaws.{no_value_no_start}
use Rattle.ht_texts.proofs.start_line.read_start.Goals as goal

pub returns-in_default : goal.returns-in_default
returns-in_default c = no_value_no_start c.args.width c.args.line.now c.loop-character.character-index
    c.loop-character-test.true (sym c.in_default.ensures)

pub returns : goal.returns
returns c = grind (arith, elements)
