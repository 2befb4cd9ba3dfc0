use Rattle.std.proofs.Common.{◌≡◌, ◌∙◌, List, [], None, Option, true, ap, sym, arith, subst}
use Rattle.ht_pairs.specs.Pairs.{Pair}
use Rattle.ht_tree.specs.declared.token.Assign3.{Assign3}
use Rattle.ht_tree.specs.Window.Windows.{IsStart, IsWindow}
use Rattle.ht_relevant.specs.Near.{RelevantState}
use Rattle.ht_window.specs.Standing.{Standing}
use Rattle.ht_window.specs.Starts.{start_of}
use Rattle.ht_window.specs.States.{WindowState}
use Rattle.ht_window.specs.Cells.{AreCells}
use Rattle.ht_window.specs.Matters.{is_relevant}
use Rattle.ht_window.specs.Renewals.{HoldsElsewhere}
use Rattle.ht_window.proofs.HistoryLaws.{cells_now}
use Rattle.ht_window.proofs.OtherFaultLaws.{front_cells, of_two, holds_elsewhere}
use Rattle.ht_window.proofs.window.Window.held_of.Goals as goal

pub returns-clause-holds : goal.returns-clause-holds
returns-clause-holds c =
    let a = c.self.inside.held in
    let w = a.standing.window in
    let setup = c.args.setup.now in
    let n = setup.frames in
    let v = c.self.view_is in
    let base = c.requires.base.base in
    let whole = c.decisions-whole.ensures in
    let few = c.requires.base.few in
    let long = ap (λ (s : WindowState). s.window.frames) v in
    let circuit : c.circuit-circuit.result.now ≡ w.circuit = c.circuit-circuit.ensures.circuit
    ∙ ap (λ (s : Standing). s.window.circuit) whole.standing in
    let fault : w.fault ≡ c.args.self.now.window.fault = ap (λ (s : WindowState). s.window.fault) v in
    let none : a.standing.path ≡ [] = ap (λ (s : WindowState). s.decisions) v ∙ base.decisions in
    let all : a.relevant ≡ None = ap (λ (s : WindowState). s.relevant) v ∙ base.whole in
    let valid : IsWindow (record w { frames = n }) = record {
      circuit = whole.window.circuit;
      start = subst (λ (s : WindowState). IsStart s.window.circuit s.window.fault n s.window.start) (sym v)
          c.requires.base.front;
    } in
    let are = cells_now w (is_relevant a.relevant) a.standing.path c.self.inside.marks.items a.cells
    c.self.invariant.history in
    let here : AreCells w (is_relevant None) [] a.cells.values =
    subst (λ (o : Option RelevantState). AreCells w (is_relevant o) [] a.cells.values) all
    (subst (λ (p : List Assign3). AreCells w (is_relevant a.relevant) p a.cells.values) none are) in
    let decisions : c.in_ok-decisions.decisions ≡ record {
      window = record w { frames = n; fault = setup.fault; start = start_of setup.start.now };
      path = [];
    } = c.in_ok-decisions.ensures ∙ (λ i. record {
      window = record {
        circuit = circuit i;
        fault = setup.fault;
        frames = n;
        start = start_of setup.start.now;
      };
      path = [];
    }) in
    let front = front_cells w [] n a.cells.values (omega (arith, few, long)) here in
    of_two c.new-2.result (λ b standing values.
    subst (HoldsElsewhere b) fault (holds_elsewhere (record w { frames = n }) valid [] b setup.fault
    (start_of setup.start.now) (standing ∙ decisions)
    (subst (λ (l : List (List Pair)). AreCells (record w { frames = n }) (λ f x. true) [] l)
    (sym (values ∙ c.in_ok-sets.ensures)) front)))
    c.new-2.ensures.standing c.new-2.ensures.values
