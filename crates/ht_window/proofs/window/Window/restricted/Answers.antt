use Rattle.std.proofs.Common.{◌∙◌, IfOk, List, ap, sym, subst}
use Rattle.ht_pairs.specs.Pairs.{Pair}
use Rattle.ht_trail.specs.Trails.{CellsState}
use Rattle.ht_tree.specs.Window.Windows.{SearchWindow}
use Rattle.ht_window.specs.Standing.{Standing}
use Rattle.ht_window.specs.BaseStates.{IsNew}
use Rattle.ht_window.specs.Renewals.{HoldsElsewhere}
use Rattle.ht_window.proofs.OtherFaultLaws.{still_elsewhere}
use Rattle.ht_window.proofs.window.Window.restricted.Goals as goal

pub followed-requires-clause-holds : goal.followed-requires-clause-holds
followed-requires-clause-holds c =
    let e = c.in-Ok.ensures in
    subst (HoldsElsewhere c.restrict.new.held) (sym c.fault.ensures)
    (still_elsewhere c.in_ok-held.held c.restrict.new.held c.args.self.now.window.fault e.standing
    (ap (λ (k : CellsState (List Pair)). k.values) e.cells) c.in_ok-held.ensures.holds)

pub returns-in-Ok : goal.returns-in-Ok
returns-in-Ok c =
    subst (λ (v : SearchWindow). IfOk c.followed.result (IsNew v))
    (ap (λ (s : Standing). s.window) (c.in-Ok.ensures.standing ∙ c.in_ok-held.ensures.standing))
    c.followed.ensures.new
