use Rattle.std.proofs.Common.{◌≡◌, ◌∙◌, ℕ, length, ap}
use Rattle.std.proofs.lemmas.Result.{IfOk-weaker}
use Rattle.ht_net.specs.Circuit.Netlist.{net_count}
use Rattle.ht_app.proofs.Common.{with_lf}
use Rattle.ht_dictionary.specs.Responses.{lines_line}
use Rattle.ht_app.proofs.respond.line_texts.Goals as goal

pub returns : goal.returns
returns c =
    let nets = c.nets.result in
    let line = lines_line (length c.args.list.now.list) (net_count c.args.circuit.now) in
    let said : c.in_ok-said.said.items ≡ with_lf line =
    c.in_ok-said.ensures ∙ ap (λ (n : ℕ). with_lf (lines_line n nets)) c.len.ensures
    ∙ ap (λ (n : ℕ). with_lf (lines_line (length c.args.list.now.list) n)) c.nets.ensures.count in
    IfOk-weaker c.row_texts.result _ _ (λ texts are. record {
      rows = c.in_ok-shown.shown.rows;
      trace = c.in_ok-shown.ensures.trace;
      texts = are;
    }) (c.row_texts.ensures line said)
