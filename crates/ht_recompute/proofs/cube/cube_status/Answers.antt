use Rattle.std.proofs.Common.{◌≡◌, ◌∙◌, ◌+◌, ◌∷◌, drop, get_or, ap, sym, arith}
use Rattle.std.proofs.lemmas.List.{drop_more}
use Rattle.ht_tern.specs.declared.tern.Tern.TheVariants.{Zero}
use Rattle.ht_recompute.specs.declared.cube.Matches.{Matches}
use Rattle.ht_recompute.specs.WantedLatches.{in_both, matches_in, wanted_in}
use Rattle.ht_recompute.proofs.WantedLaws.{met_more}
use Rattle.ht_recompute.proofs.cube.cube_status.Goals as goal

pub loop-j-preserved : goal.loop-j-preserved
loop-j-preserved c =
    let j = c.loop-j.j in
    let cube = c.args.cube.now in
    let sets = c.args.sets.now in
    let s = c.index-sets-j.result in
    let inside = c.requires in
    let values = drop_more cube j Zero (let l = c.loop-j-test.true in omega (arith, inside, l)) in
    let held : drop j sets ≡ s ∷ drop (j + 1) sets =
    drop_more sets j s c.loop-j-test.true ∙ ap (λ t. t ∷ drop (j + 1) sets) (sym c.index-sets-j.is) in
    ap (λ (m : Matches). in_both m (matches_in (wanted_in (drop (j + 1) cube) (drop (j + 1) sets))))
    (c.and-met.ensures ∙ ap (in_both c.loop-j.met) c.of_latch.ensures)
    ∙ (met_more c.loop-j.met (get_or cube j Zero) (drop (j + 1) cube) s (drop (j + 1) sets)
    ∙ ((λ i. in_both c.loop-j.met (matches_in (wanted_in (sym values i) (sym held i)))) ∙ c.loop-j.invariant))
