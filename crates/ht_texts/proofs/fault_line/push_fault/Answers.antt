use Rattle.std.proofs.Common.{◌++◌, ◌∙◌, List, ℕ, ap}
use Rattle.std.specs.Prelude.{codes}
use Rattle.ht_texts.specs.Pieces.{add_pieces}
use Rattle.ht_texts.specs.Reports.{line_front, outcome_pieces}
use Rattle.ht_texts.proofs.PieceLaws.{added_both, line_added}
use Rattle.ht_texts.proofs.fault_line.push_fault.Goals as goal

pub returns : goal.returns
returns c =
    let text = c.args.text.now.items in
    let front = line_front c.args.circuit.now c.args.i in
    let outcome = outcome_pieces c.args.circuit.now c.args.classes.now c.args.i c.args.said in
    c.in_ok-extend_from_slice.ensures.items
    ∙ ap (λ (t : List ℕ). t ++ codes "\n") (c.in_ok-push_outcome.ensures
    ∙ ap (λ (t : List ℕ). add_pieces t outcome) c.in_ok-push_line_front.ensures ∙ added_both text front outcome)
    ∙ line_added text (front ++ outcome)
