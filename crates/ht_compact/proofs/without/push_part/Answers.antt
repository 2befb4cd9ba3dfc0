use Rattle.std.proofs.Common.{◌-◌, ◌++◌, [], ◌∷◌, List, Bool, take, drop, sym, ◌∙◌, ap, arith, append_assoc}
use Rattle.ht_net.specs.Frames.Rows.{Rows}
use Rattle.ht_compact.proofs.WithoutLaws.{part_more}
use Rattle.ht_compact.proofs.without.push_part.Goals as goal

pub loop-s-preserved : goal.loop-s-preserved
loop-s-preserved c =
    let list = c.args.list.now.list in
    let from = c.args.from in
    let given = c.args.kept.now.list in
    let s = c.loop-s.s in
    let part : List (List Bool) = take (s - from) (drop from list) in
    let vector = c.get.result.now in
    c.in_ok-push.ensures.ok
    ∙ (ap (λ (r : Rows). record { width = r.width; list = r.list ++ vector ∷ [] }) c.loop-s.invariant
    ∙ ap (λ (l : List (List Bool)). record { width = c.args.kept.now.width; list = l })
    (append_assoc given part (vector ∷ []) ∙ ap (λ (l : List (List Bool)). given ++ l)
    (ap (λ (v : List Bool). part ++ v ∷ []) c.get.ensures.row
    ∙ sym (part_more list from s [] (omega arith) (omega arith)))))
