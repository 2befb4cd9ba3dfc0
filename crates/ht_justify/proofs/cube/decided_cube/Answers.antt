use Rattle.std.proofs.Common.{◌≡◌, ◌∙◌, ◌+◌, ◌++◌, ◌∷◌, [], ℕ, ap, sym, arith}
use Rattle.std.proofs.lemmas.List.FromFn.{map-range_with_len_more}
use Rattle.ht_tern.specs.declared.tern.Tern.{Tern}
use Rattle.ht_net.specs.Circuit.Netlist.{Netlist}
use Rattle.ht_tree.specs.Window.Decisions.{decided_value}
use Rattle.ht_tree.specs.Window.Nodes.{or_unknown}
use Rattle.ht_justify.proofs.cube.decided_cube.Goals as goal

pub loop-j-preserved : goal.loop-j-preserved
loop-j-preserved c =
    let s = c.args.window.now in
    let j = c.loop-j.j in
    let g : ℕ → Tern = λ j. or_unknown (decided_value s.decisions (s.window.circuit.inputs + j)) in
    let inputs = c.inputs.ensures ∙ ap (λ (n : Netlist). n.inputs) c.circuit-circuit.ensures.circuit in
    let value : c.or_unknown.result ≡ g j =
    c.or_unknown.ensures
    ∙ ap or_unknown (c.decided.ensures ∙ ap (λ (n : ℕ). decided_value s.decisions (n + j)) inputs) in
    c.in_ok-push.ensures.ok
    ∙ ((λ k. (c.loop-j.invariant k) ++ value k ∷ []) ∙ sym (map-range_with_len_more g 0 j j (omega arith)))
