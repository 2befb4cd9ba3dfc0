use Rattle.std.proofs.Common.{◌++◌, ◌∷◌, [], List, map, sym, ◌∙◌, ap, append_assoc, arith}
use Rattle.std.specs.List.{range_with_len}
use Rattle.std.proofs.lemmas.List.FromFn.{map-range_with_len_more}
use Rattle.ht_net.specs.declared.fault.Site.{Site}
use Rattle.ht_net.specs.declared.fault.Site.TheVariants.{Stem}
use Rattle.ht_faults.proofs.sites.add_stems.Goals as goal

pub loop-x-preserved : goal.loop-x-preserved
loop-x-preserved c =
    let old = c.args.sites.now.items in
    let so_far : List Site = map (λ x. Stem (record { 0 = x })) (range_with_len 0 c.loop-x.x) in
    let one : List Site = Stem (record { 0 = c.loop-x.x }) ∷ [] in
    c.in_ok-push.ensures.items ∙ (ap (λ (l : List Site). l ++ one) c.loop-x.invariant ∙ (append_assoc old so_far one
    ∙ ap (λ (l : List Site). old ++ l)
    (sym (map-range_with_len_more (λ x. Stem (record { 0 = x })) 0 c.loop-x.x c.loop-x.x (omega arith)))))
