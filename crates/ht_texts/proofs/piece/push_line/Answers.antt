use Rattle.std.proofs.Common.{◌++◌, ◌∙◌, List, ℕ, ap}
use Rattle.std.specs.Prelude.{codes}
use Rattle.ht_texts.specs.PiecesOf.{pieces_of}
use Rattle.ht_texts.proofs.PieceLaws.{line_added}
use Rattle.ht_texts.proofs.piece.push_line.Goals as goal

pub returns : goal.returns
returns c =
    c.in_ok-extend_from_slice.ensures.items ∙ ap (λ (t : List ℕ). t ++ codes "\n") c.in_ok-push_pieces.ensures
    ∙ line_added c.args.text.now.items (pieces_of c.args.pieces.now)
