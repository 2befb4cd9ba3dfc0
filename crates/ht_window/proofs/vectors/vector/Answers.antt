use Rattle.std.proofs.Common.{◌≡◌, ◌∙◌, ◌+◌, ◌*◌, ◌++◌, ◌∷◌, [], ℕ, Bool, ap, sym, arith}
use Rattle.std.proofs.lemmas.List.FromFn.{map-range_with_len_more}
use Rattle.ht_tree.specs.Window.Decisions.{decided_value}
use Rattle.ht_tree.specs.Walk.FoundLists.{bit_or_zero}
use Rattle.ht_window.proofs.vectors.vector.Goals as goal

pub loop-i-preserved : goal.loop-i-preserved
loop-i-preserved c =
    let s = c.args.window.now in
    let i = c.loop-i.i in
    let g : ℕ → Bool = λ i. bit_or_zero (decided_value s.decisions (c.args.frame * s.window.circuit.inputs + i)) in
    let value : c.bit_or_zero.result ≡ g i = c.bit_or_zero.ensures
    ∙ ap bit_or_zero (c.decided.ensures ∙ ap (decided_value s.decisions) c.input_var-var.ensures) in
    c.in_ok-push.ensures.items
    ∙ ((λ k. (c.loop-i.invariant k) ++ value k ∷ []) ∙ sym (map-range_with_len_more g 0 i i (omega arith)))
