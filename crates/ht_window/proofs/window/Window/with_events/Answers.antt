use Rattle.std.proofs.Common.{List, None, Option, sym, subst}
use Rattle.ht_tree.specs.declared.token.Assign3.{Assign3}
use Rattle.ht_relevant.specs.Near.{RelevantState}
use Rattle.ht_relevant.specs.Relevant.{IsRelevant}
use Rattle.ht_window.specs.Cells.{AreCells}
use Rattle.ht_window.specs.Matters.{is_relevant}
use Rattle.ht_window.proofs.RestrictLaws.{whole_relevant}
use Rattle.ht_window.proofs.window.Window.with_events.Goals as goal

pub undecided-requires-clause-relevant : goal.undecided-requires-clause-relevant
undecided-requires-clause-relevant c =
    let w = c.args.held.standing.window in
    subst (λ (o : Option RelevantState). IsRelevant w (is_relevant o)) (sym c.requires.whole) (whole_relevant w)

pub undecided-requires-clause-cells : goal.undecided-requires-clause-cells
undecided-requires-clause-cells c =
    let h = c.args.held in
    subst (λ (o : Option RelevantState). AreCells h.standing.window (is_relevant o) h.standing.path h.cells.values)
    (sym c.requires.whole)
    (subst (λ (p : List Assign3). AreCells h.standing.window (is_relevant None) p h.cells.values)
    (sym c.requires.path) c.requires.cells)
