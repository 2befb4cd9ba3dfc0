use Rattle.std.proofs.Common.{List, ◌++◌, subst}
use Rattle.std.specs.Prelude.{codes}
use Rattle.ht_texts.specs.Fronts.{Strips}
use Rattle.ht_texts.specs.Pieces.{Piece, pieces_text}
use Rattle.ht_texts.specs.Reports.{answer_sums, some_pieces}
use Rattle.ht_texts.proofs.FrontLaws.{strips_pieces}
use Rattle.ht_texts.proofs.read_total.strip_search.Goals as goal

pub returns : goal.returns
returns c =
    let sums = c.args.sums in
    let some = some_pieces (codes " undetectable ") sums.undetectable in
    let front = subst (λ (p : List Piece). Strips (pieces_text p) c.args.text c.strip_pieces-rest.result)
    c.answer_sums.ensures c.strip_pieces-rest.ensures in
    strips_pieces (answer_sums sums ++ some) (some_pieces (codes " undetected ") sums.undetected)
    (strips_pieces (answer_sums sums) some front c.strip_some-rest.ensures) c.strip_some.ensures
