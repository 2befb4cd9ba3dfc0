use Rattle.std.proofs.Common.{◌∙◌, ◌+◌, List, length, ap, sym, subst}
use Rattle.ht_tree.specs.declared.token.Token.{Token}
use Rattle.ht_tree.specs.declared.window.Spot.{Spot}
use Rattle.ht_tree.specs.declared.window.Status.TheVariants.{Sure}
use Rattle.ht_tree.specs.Walk.Searches.{Closes, SpendsAt, node_at}
use Rattle.ht_tree.specs.Window.Windows.{SearchWindow}
use Rattle.ht_tree.specs.Window.WindowStatus.{status_at}
use Rattle.ht_oneframe.specs.Rounds.{assigns_below}
use Rattle.ht_oneframe.proofs.FoundLaws.{frame_found}
use Rattle.ht_oneframe.proofs.round.round_of.Goals as goal

pub returns-in-Closed : goal.returns-in-Closed
returns-in-Closed c = λ n f guide budget z window outcome.
    subst (λ (ts : List Token). Closes (guide z) budget 1 ts) (sym c.from_vec.ensures) (rw c.in-Closed.is at outcome)

pub returns-in-Spent : goal.returns-in-Spent
returns-in-Spent c = λ n f guide budget z window outcome.
    let path = c.args.window.now.decisions in (
      path,
      subst (λ (ts : List Token). SpendsAt (guide z) budget 1 ts (node_at path)) (sym c.from_vec-in-Spent.ensures)
          (rw c.in-Spent.is at outcome),
    )

pub returns-in-Sure : goal.returns-in-Sure
returns-in-Sure c = λ n f guide budget z window outcome.
    let s = c.args.window.now in
    let told = c.in_ok-told_frame-in-Sure in
    frame_found n f guide budget z told.field-0 c.in-Found.tokens.items s.decisions c.in-Sure.frame
    (rw c.in-Found.is at outcome)
    (ap (λ (w : SearchWindow). status_at w s.decisions) (sym window)
    ∙ (sym c.in-Sure.ensures ∙ ap (λ (p : Spot). Sure c.in-Sure.frame p) (sym told.ensures.place)))
    (told.ensures.sets
    ∙ ap (λ (w : SearchWindow). assigns_below s.decisions (w.circuit.inputs + length w.circuit.dffs
    + length w.circuit.dffs)) window)
