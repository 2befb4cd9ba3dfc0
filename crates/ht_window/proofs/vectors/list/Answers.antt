use Rattle.std.proofs.Common.{◌∙◌, ◌+◌, ◌*◌, ◌++◌, ◌∷◌, [], List, Bool, length, ap, sym, arith}
use Rattle.std.proofs.lemmas.List.FromFn.{length-map-range_with_len, map-range_with_len_more}
use Rattle.ht_net.specs.Frames.Rows.{Rows}
use Rattle.ht_tree.specs.Window.Decisions.{decided_value}
use Rattle.ht_tree.specs.Walk.FoundLists.{bit_or_zero, vector_of}
use Rattle.ht_window.proofs.vectors.list.Goals as goal

pub push-requires : goal.push-requires
push-requires c =
    let s = c.args.window.now in
    let n = s.window.circuit.inputs in
    ap length (c.deref.ensures.value ∙ c.in_ok-row.ensures)
    ∙ (length-map-range_with_len
    (λ i. bit_or_zero (decided_value s.decisions (c.loop-frame.frame * n + i))) 0 n
    ∙ sym (ap (λ (r : Rows). r.width) c.loop-frame.invariant))

pub loop-frame-preserved : goal.loop-frame-preserved
loop-frame-preserved c =
    let s = c.args.window.now in
    let n = s.window.circuit in
    let row = c.deref.ensures.value ∙ c.in_ok-row.ensures in
    let i = c.loop-frame.invariant in
    c.in_ok-push.ensures.ok
    ∙ ((λ k. record { width = (i k).width; list = (i k).list ++ row k ∷ [] })
    ∙ ap (λ (rows : List (List Bool)). let r : Rows = record { width = n.inputs; list = rows } in r)
    (sym (map-range_with_len_more (vector_of n s.decisions) 0 c.loop-frame.frame c.loop-frame.frame (omega arith))))
