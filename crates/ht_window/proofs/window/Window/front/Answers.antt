use Rattle.std.proofs.Common.{◌≡◌, ◌≤◌, ◌∙◌, ◌*◌, List, [], None, Option, IfOk, true, ap, sym, arith, length, take, subst}
use Rattle.std.proofs.Math.Nat.{mul-le-mul_right}
use Rattle.std.proofs.lemmas.List.{length-take-le}
use Rattle.ht_pairs.specs.Pairs.{Pair}
use Rattle.ht_net.specs.Circuit.Netlist.{Netlist, net_count}
use Rattle.ht_tree.specs.declared.token.Assign3.{Assign3}
use Rattle.ht_tree.specs.Window.Windows.{SearchWindow}
use Rattle.ht_relevant.specs.Near.{RelevantState}
use Rattle.ht_window.specs.Matters.{is_relevant}
use Rattle.ht_window.specs.Standing.{Standing}
use Rattle.ht_window.specs.States.{WindowState}
use Rattle.ht_window.specs.BaseStates.{IsNew}
use Rattle.ht_window.specs.Cells.{AreCells, cell_count}
use Rattle.ht_window.proofs.HistoryLaws.{cells_now}
use Rattle.ht_window.proofs.OtherFaultLaws.{front_cells}
use Rattle.ht_window.proofs.window.Window.front.Goals as goal
use Rattle.ht_window.proofs.window.Window.front.Goals.{In_ok-held}

pub new-requires-2-clause-count : goal.new-requires-2-clause-count
new-requires-2-clause-count c =
    let a = c.self.inside.held in
    let w = a.standing.window in
    let n = c.args.frames in
    let nets = net_count w.circuit in
    let long = c.decisions-whole.ensures.count in
    let r = c.requires.few in
    let v = ap (λ (s : WindowState). s.window.frames) c.self.view_is in
    let m : n * nets ≤ w.frames * nets = mul-le-mul_right nets (omega (arith, r, v)) in
    let l : length (take (n * nets) a.cells.values) ≡ n * nets = length-take-le (n * nets) a.cells.values
    (omega (arith, m, long)) in
    let circuit : c.circuit.result.now ≡ w.circuit = c.circuit.ensures.circuit
    ∙ ap (λ (s : Standing). s.window.circuit) c.decisions-whole.ensures.standing in
    ap length c.in_ok-sets.ensures ∙ (l ∙ (ap (λ (k : Netlist). n * net_count k) (sym circuit)
    ∙ sym (ap (λ (s : Standing). cell_count s.window) c.in_ok-part.ensures)))

-- the cells stand under no decision in the window of the first frames
part : (c : In_ok-held) → c.in_ok-held.held.standing
    ≡ record { window = record c.self.inside.held.standing.window { frames = c.args.frames }; path = [] }
part c =
    let whole = c.decisions-whole.ensures.standing in
    let circuit : c.circuit.result.now ≡ c.self.inside.held.standing.window.circuit = c.circuit.ensures.circuit
    ∙ ap (λ (s : Standing). s.window.circuit) whole in
    let fault = c.fault.ensures ∙ ap (λ (s : Standing). s.window.fault) whole in
    let start = c.start.ensures ∙ ap (λ (s : Standing). s.window.start) whole in
    c.in_ok-held.ensures.standing ∙ (c.in_ok-part.ensures ∙ (λ i. record {
      window = record { circuit = circuit i; fault = fault i; frames = c.args.frames; start = start i };
      path = [];
    }))

pub with_events-requires-clause-cells : goal.with_events-requires-clause-cells
with_events-requires-clause-cells c =
    let a = c.self.inside.held in
    let w = a.standing.window in
    let n = c.args.frames in
    let h = c.in_ok-held.held in
    let r = c.requires.few in
    let v = ap (λ (s : WindowState). s.window.frames) c.self.view_is in
    let none : a.standing.path ≡ [] = ap (λ (s : WindowState). s.decisions) c.self.view_is ∙ c.requires.base.decisions in
    let all : a.relevant ≡ None = ap (λ (s : WindowState). s.relevant) c.self.view_is ∙ c.requires.base.whole in
    let are = cells_now w (is_relevant a.relevant) a.standing.path c.self.inside.marks.items a.cells
    c.self.invariant.history in
    let values : h.cells.values ≡ take (n * net_count w.circuit) a.cells.values = c.in_ok-held.ensures.values
    ∙ c.in_ok-sets.ensures in
    subst (λ (v : SearchWindow). AreCells v (λ f x. true) [] h.cells.values)
    (sym (ap (λ (s : Standing). s.window) (part (goal.at.with_events-requires-clause-cells c).In_ok-held)))
    (subst (λ (l : List (List Pair)). AreCells (record w { frames = n }) (λ f x. true) [] l) (sym values)
    (front_cells w [] n a.cells.values (omega (arith, r, v))
    (subst (λ (o : Option RelevantState). AreCells w (is_relevant o) [] a.cells.values) all
    (subst (λ (p : List Assign3). AreCells w (is_relevant a.relevant) p a.cells.values) none are))))

pub returns : goal.returns
returns c =
    subst (λ (v : SearchWindow). IfOk c.with_events.result (IsNew v))
    (ap (λ (s : Standing). s.window) (part (goal.at.returns c).In_ok-held)
    ∙ ap (λ (s : WindowState). record s.window { frames = c.args.frames }) c.self.view_is) c.with_events.ensures.new
