use Rattle.std.proofs.Common.{List, [], None, ap, sym, subst}
use Rattle.ht_pairs.specs.Pairs.{Pair}
use Rattle.ht_tree.specs.declared.token.Assign3.{Assign3}
use Rattle.ht_window.specs.Standing.{Standing}
use Rattle.ht_window.specs.Cells.{AreCells}
use Rattle.ht_window.specs.Matters.{is_relevant}
use Rattle.ht_window.proofs.OtherFaultLaws.{of_two}
use Rattle.ht_window.proofs.window.Window.whole_held.Goals as goal

pub returns-in-Ok-clause-cells : goal.returns-in-Ok-clause-cells
returns-in-Ok-clause-cells c =
    let d = c.in_ok-decisions.decisions in
    of_two c.new-in-Ok.result (λ h standing values.
    subst (λ (s : Standing). AreCells s.window (is_relevant None) [] h.cells.values) (sym standing)
    (subst (λ (l : List (List Pair)). AreCells d.window (is_relevant None) [] l) (sym values)
    (subst (λ (p : List Assign3). AreCells d.window (is_relevant None) p c.in-Ok.sets.items)
    (ap (λ (s : Standing). s.path) c.in_ok-decisions.ensures) c.in-Ok.ensures.cells)))
    c.new-in-Ok.ensures.standing c.new-in-Ok.ensures.values
