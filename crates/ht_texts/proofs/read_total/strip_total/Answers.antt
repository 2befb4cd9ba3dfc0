use Rattle.std.proofs.Common.{List, subst}
use Rattle.ht_texts.specs.Fronts.{Strips}
use Rattle.ht_texts.specs.Pieces.{Piece, pieces_text}
use Rattle.ht_texts.specs.Reports.{class_sums, search_sums}
use Rattle.ht_texts.proofs.FrontLaws.{strips_pieces}
use Rattle.ht_texts.proofs.read_total.strip_total.Goals as goal
use Rattle.ht_texts.proofs.read_total.strip_total.Goals.{After-strip_pieces-rest}

front : (c : After-strip_pieces-rest)
    → Strips (pieces_text (class_sums c.args.sums)) c.args.text c.strip_pieces-rest.result
front c = subst (λ (p : List Piece). Strips (pieces_text p) c.args.text c.strip_pieces-rest.result) c.class_sums.ensures
    c.strip_pieces-rest.ensures

pub returns-then-sums : goal.returns-then-sums
returns-then-sums c = rw c.if-sums.true (strips_pieces (class_sums c.args.sums) (search_sums c.args.sums)
    (front (goal.at.returns-then-sums c).After-strip_pieces-rest) c.strip_search.ensures)

pub returns-else-sums : goal.returns-else-sums
returns-else-sums c = rw c.if-sums.false (front (goal.at.returns-else-sums c).After-strip_pieces-rest)
