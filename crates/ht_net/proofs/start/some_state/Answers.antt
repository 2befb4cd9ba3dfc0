use Rattle.std.proofs.Common.{◌++◌, ◌∷◌, ◌∙◌, [], List, Bool, map, take, ap, sym}
use Rattle.std.proofs.lemmas.List.{get_or_default, map_more}
use Rattle.ht_tern.specs.declared.tern.Tern.TheVariants.{Zero, Unk}
use Rattle.ht_net.specs.Detect.Detection.{some_bit}
use Rattle.ht_net.proofs.start.some_state.Goals as goal

pub loop-value-preserved : goal.loop-value-preserved
loop-value-preserved c =
    let start = c.args.start.now in
    let k = c.loop-value.value-index in
    c.in_ok-push.ensures.items ∙ (ap (λ (l : List Bool). l ++ c.some_bit.result ∷ []) c.loop-value.invariant
    ∙ (ap (λ (b : Bool). map some_bit (take k start) ++ b ∷ []) (c.some_bit.ensures
    ∙ ap some_bit (get_or_default start k Zero Unk c.loop-value-test.true))
    ∙ sym (map_more some_bit start k Unk c.loop-value-test.true)))
