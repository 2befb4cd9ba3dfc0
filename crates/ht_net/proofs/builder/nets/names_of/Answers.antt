use Rattle.std.proofs.Common.{◌≡◌, ◌<◌, ◌+◌, ◌++◌, ◌∷◌, [], ℕ, List, Vec, Global, length, get_or, map, take, sym, ◌∙◌, ap}
use Rattle.std.proofs.lemmas.List.{map_more, map_push}
use Rattle.ht_net.specs.declared.names.NameId.{NameId}
use Rattle.ht_net.specs.Build.Named.{Name}
use Rattle.ht_net.specs.Build.DraftOf.{named_at}
use Rattle.ht_net.specs.Build.Finish.{no_name}
use Rattle.ht_net.proofs.builder.nets.names_of.Goals as goal

abbrev bytes : Vec ℕ Global → Name
bytes v = v.items

copied_more : (names : List Name) (ids : List NameId) (i : ℕ) (copies new : List (Vec ℕ Global)) (copy : Vec ℕ Global)
    → i < length ids → map bytes copies ≡ map (named_at names) (take i ids) → new ≡ copies ++ copy ∷ []
    → copy.items ≡ named_at names (get_or ids i no_name)
    → map bytes new ≡ map (named_at names) (take (i + 1) ids)
copied_more names ids i copies new copy inside before are same = ap (map bytes) are ∙ map_push bytes copies copy
    ∙ (λ j. before j ++ same j ∷ []) ∙ sym (map_more (named_at names) ids i no_name inside)

pub loop-id-preserved : goal.loop-id-preserved
loop-id-preserved c = copied_more c.args.names.now c.args.ids.now c.loop-id.id-index c.loop-id.copies.items _
    c.in_ok-copy.copy c.loop-id-test.true c.loop-id.invariant c.in_ok-push.ensures.items
    (c.in_ok-copy.ensures.items ∙ c.get.ensures)
