use Rattle.std.proofs.Common.{◌++◌, ◌∙◌, List, ℕ, ap}
use Rattle.std.specs.Prelude.{codes}
use Rattle.ht_texts.specs.Pieces.{Piece, add_pieces, pieces_text}
use Rattle.ht_texts.specs.PiecesOf.{pieces_of}
use Rattle.ht_texts.specs.Reports.{budget_pieces}
use Rattle.ht_texts.proofs.head.write_head.Goals as goal

pub returns : goal.returns
returns c =
    let budget = budget_pieces c.args.budget in
    c.in_ok-extend_from_slice.ensures.items
    ∙ ap (λ (t : List ℕ). t ++ codes "\n") (c.in_ok-push_budget.ensures
    ∙ ap (λ (t : List ℕ). add_pieces t budget) (c.in_ok-push_pieces.ensures
    ∙ ap (λ (t : List ℕ). add_pieces t (pieces_of c.sizes_of.result)) c.new-line.ensures.items
    ∙ ap (λ (p : List Piece). pieces_text p) c.sizes_of.ensures))
