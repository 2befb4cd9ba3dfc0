use Rattle.std.proofs.Common.{◌∙◌, ◌++◌, ℕ, List, ap}
use Rattle.ht_dictionary.specs.Responses.{response_text, rows_but_last}
use Rattle.ht_dictionary.proofs.RespondLaws.{text_parts}
use Rattle.ht_app.proofs.respond.row_texts.Goals as goal

pub returns : goal.returns
returns c = λ line said.
    let rows = c.args.shown.now.rows in
    let last = c.in_ok-last.last.items in
    record {
      text = ap (λ (l : List ℕ). l ++ last) c.in_ok-body.ensures
          ∙ ap (λ (l : List ℕ). response_text (rows_but_last rows) ++ l) c.in_ok-last.ensures ∙ text_parts rows;
      last_is = c.in_ok-last.ensures;
      total_is = said;
    }
