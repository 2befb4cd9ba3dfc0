use Rattle.std.proofs.Common.{◌≡◌, ◌∙◌, List, [], None, Option, true, ap, sym, subst}
use Rattle.ht_pairs.specs.Pairs.{Pair}
use Rattle.ht_tree.specs.declared.token.Assign3.{Assign3}
use Rattle.ht_relevant.specs.Near.{RelevantState}
use Rattle.ht_window.specs.Standing.{Standing}
use Rattle.ht_window.specs.Starts.{start_of}
use Rattle.ht_window.specs.States.{WindowState}
use Rattle.ht_window.specs.Cells.{AreCells}
use Rattle.ht_window.specs.Matters.{is_relevant}
use Rattle.ht_window.specs.Renewals.{HoldsElsewhere}
use Rattle.ht_window.proofs.HistoryLaws.{cells_now}
use Rattle.ht_window.proofs.OtherFaultLaws.{holds_elsewhere}
use Rattle.ht_window.proofs.window.Window.following.Goals as goal

pub settled-requires-clause-holds : goal.settled-requires-clause-holds
settled-requires-clause-holds c =
    let a = c.self.inside.held in
    let w = a.standing.window in
    let setup = c.args.setup.now in
    let start = start_of setup.start.now in
    let v = c.self.view_is in
    let base = c.requires.base in
    let whole = c.decisions-whole.ensures in
    let circuit : c.circuit-circuit.result.now ≡ w.circuit = c.circuit-circuit.ensures.circuit
    ∙ ap (λ (s : Standing). s.window.circuit) whole.standing in
    let frames : c.frames-frames.result ≡ w.frames = c.frames-frames.ensures
    ∙ ap (λ (s : Standing). s.window.frames) whole.standing in
    let fault : w.fault ≡ c.fault-before.result = ap (λ (s : WindowState). s.window.fault) v
    ∙ sym c.fault-before.ensures in
    let none : a.standing.path ≡ [] = ap (λ (s : WindowState). s.decisions) v ∙ base.decisions in
    let all : a.relevant ≡ None = ap (λ (s : WindowState). s.relevant) v ∙ base.whole in
    let are = cells_now w (is_relevant a.relevant) a.standing.path c.self.inside.marks.items a.cells
    c.self.invariant.history in
    let here : AreCells w (is_relevant None) [] a.cells.values =
    subst (λ (o : Option RelevantState). AreCells w (is_relevant o) [] a.cells.values) all
    (subst (λ (p : List Assign3). AreCells w (is_relevant a.relevant) p a.cells.values) none are) in
    let decisions : c.in-Ok.decisions ≡ record {
      window = record w { fault = setup.fault; start = start };
      path = [];
    } = c.in-Ok.ensures ∙ (λ i. record {
      window = record { circuit = circuit i; fault = setup.fault; frames = frames i; start = start };
      path = [];
    }) in
    subst (HoldsElsewhere c.under.result) fault (holds_elsewhere w whole.window [] c.under.result setup.fault start
    (c.under.ensures.standing ∙ decisions)
    (subst (λ (l : List (List Pair)). AreCells w (λ f x. true) [] l) (sym c.under.ensures.values) here))
