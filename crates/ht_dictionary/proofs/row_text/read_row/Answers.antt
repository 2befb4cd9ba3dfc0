use Rattle.std.proofs.Common.{◌∙◌, sym}
use Rattle.std.proofs.lemmas.Result.{IfOk-weaker}
use Rattle.ht_dictionary.proofs.RowTextLaws.{no_row, row_read}
use Rattle.ht_dictionary.proofs.row_text.read_row.Goals as goal

pub returns-then-contains : goal.returns-then-contains
returns-then-contains c = λ row.
    no_row c.args.width c.args.line.now row (sym c.contains.ensures.value ∙ c.if-contains.true)

pub returns : goal.returns
returns c =
    IfOk-weaker c.read_start.result _ _ (λ read. row_read c.args.width c.args.line.now read
    (sym c.contains.ensures.value ∙ c.if-contains.false)) c.read_start.ensures
