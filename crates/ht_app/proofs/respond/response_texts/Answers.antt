use Rattle.std.proofs.Common.{◌≡◌, ◌∙◌, ℕ, length, ap, subst}
use Rattle.std.specs.Prelude.{IfOk}
use Rattle.ht_app.proofs.Common.{ObservationView, with_lf}
use Rattle.ht_dictionary.specs.Responses.{AreRowTexts, responses_line}
use Rattle.ht_app.proofs.respond.response_texts.Goals as goal

pub returns : goal.returns
returns c =
    let outputs = c.outputs.result in
    let line = responses_line (length c.args.list.now.list) (length c.args.circuit.now.outputs) in
    let said : c.in_ok-said.said.items ≡ with_lf line =
    c.in_ok-said.ensures ∙ ap (λ (n : ℕ). with_lf (responses_line n outputs)) c.len.ensures
    ∙ ap (λ (n : ℕ). with_lf (responses_line (length c.args.list.now.list) n)) c.outputs.ensures in
    subst (λ (o : ObservationView). IfOk c.row_texts.result
    (λ texts. AreRowTexts o.rows line texts.body.items texts.last.items texts.said.items)) c.in_ok-shown.ensures
    (c.row_texts.ensures line said)
