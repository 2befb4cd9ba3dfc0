use Rattle.std.proofs.Common.{◌≡◌, ◌∙◌, ◌∷◌, ◌++◌, ◌-◌, [], List, Bool, length, suc, drop, reverse, ap, sym, arith}
use Rattle.std.proofs.lemmas.List.{length-map}
use Rattle.ht_net.specs.Circuit.Netlist.{Netlist}
use Rattle.ht_net.specs.Frames.Rows.{Rows}
use Rattle.ht_tree.specs.Walk.FoundLists.{vector_of}
use Rattle.ht_records.proofs.SureLaws.{vector_wide}
use Rattle.ht_window.specs.States.{WindowState}
use Rattle.ht_justify.specs.BackStates.{BackState}
use Rattle.ht_justify.proofs.StackLaws.{list_grows, list_is, vectors_back}
use Rattle.ht_justify.proofs.ProblemLaws.{circuit_here, window_above}
use Rattle.ht_justify.proofs.back_windows.BackWindows.list.Goals as goal

pub push-requires : goal.push-requires
push-requires c =
    let w = c.self.inside.window in
    ap length (c.deref.ensures.value ∙ c.in_ok-own.ensures)
    ∙ (vector_wide w.window.circuit w.decisions 0
    ∙ (ap (λ (n : Netlist). n.inputs) (circuit_here c.self.inside c.args.self.now c.self.view_is c.self.invariant)
    ∙ (sym c.inputs.ensures ∙ sym (ap (λ (r : Rows). r.width) c.new-list.ensures))))

pub vector-requires-in-loop-k : goal.vector-requires-in-loop-k
vector-requires-in-loop-k c =
    let v = c.self.inside.above in
    let test = c.loop-k-test.true in
    let most = c.loop-k.auto.k in
    let at = window_above c.self.inside c.args.self.now c.self.view_is c.self.invariant (c.loop-k.k - 1)
    c.index.result.now c.index.ensures (omega (arith, test, most)) in
    let one = at.0.1 in
    omega (arith, one)

pub push-requires-in-loop-k : goal.push-requires-in-loop-k
push-requires-in-loop-k c =
    let v = c.self.inside.above in
    let test = c.loop-k-test.true in
    let most = c.loop-k.auto.k in
    let x = c.index.result.now in
    let at = window_above c.self.inside c.args.self.now c.self.view_is c.self.invariant (c.loop-k.k - 1) x
    c.index.ensures (omega (arith, test, most)) in
    ap length (c.deref-in-loop-k.ensures.value ∙ c.in_ok-row.ensures)
    ∙ (vector_wide x.window.circuit x.decisions 0
    ∙ (ap (λ (n : Netlist). n.inputs) at.0.0 ∙ sym (ap (λ (r : Rows). r.width) c.loop-k.invariant)))

pub loop-k-preserved : goal.loop-k-preserved
loop-k-preserved c =
    let s = c.args.self.now in
    let v = c.self.inside.above in
    let k = c.loop-k.k in
    let test = c.loop-k-test.true in
    let most = c.loop-k.auto.k in
    let x = c.index.result.now in
    let at = window_above c.self.inside s c.self.view_is c.self.invariant (k - 1) x c.index.ensures
    (omega (arith, test, most)) in
    let row = c.deref-in-loop-k.ensures.value
    ∙ (c.in_ok-row.ensures ∙ ap (λ (n : Netlist). vector_of n x.decisions 0) at.0.0) in
    let i = c.loop-k.invariant in
    let n = length-map v.items (λ (s : WindowState). s.decisions) in
    let many = ap (λ (s : BackState). length s.above) c.self.view_is in
    let next : suc (k - 1) ≡ k = omega (arith, test) in
    c.in_ok-push-2.ensures.ok
    ∙ ((λ j. record { width = (i j).width; list = (i j).list ++ row j ∷ [] })
    ∙ ap (λ (rows : List (List Bool)). let r : Rows = record { width = s.first.circuit.inputs; list = rows } in r)
    (list_grows s.first.circuit s.above s.decisions x.decisions k (k - 1) next (omega (arith, test, most, n, many))
    at.1))

pub returns : goal.returns
returns c =
    let s = c.args.self.now in
    let test = c.loop-k-test.false in
    let none : c.loop-k.k ≡ 0 = omega (arith, test) in
    c.loop-k.invariant
    ∙ ap (λ (rows : List (List Bool)). let r : Rows = record { width = s.first.circuit.inputs; list = rows } in r)
    ((λ j. vectors_back s.first.circuit (s.decisions ∷ reverse (drop (none j) s.above)))
    ∙ list_is s.first.circuit c.self.inside.cube.now c.self.inside.limit s.above s.decisions)
