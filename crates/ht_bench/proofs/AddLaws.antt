-- What settles whether a statement is added to a draft.
use Rattle.std.proofs.Common.{◌≡◌, [], ◌∷◌, ◌++◌, Contains}
use Rattle.std.proofs.lemmas.Bool.{cond_both, both_ways}
use Rattle.ht_net.specs.Build.Named.{Name}
use Rattle.ht_net.specs.Build.Draft.{Draft}
use Rattle.ht_bench.specs.Different.{has_name, with_name}
use Rattle.ht_bench.proofs.NameListLaws.{has_name-Decides}

-- an output that is there adds nothing
pub output_is : (d new : Draft) (name : Name) → (Contains d.outputs name → new ≡ d)
    → (¬ Contains d.outputs name → new ≡ record d { outputs = d.outputs ++ name ∷ [] })
    → new ≡ record d { outputs = with_name d.outputs name }
output_is d new name known added =
    let has = has_name d.outputs name in
    cond_both has d.outputs (d.outputs ++ name ∷ []) (λ l. new ≡ record d { outputs = l })
    (λ yes. known ((has_name-Decides d.outputs name).0 yes))
    (λ no. added (λ at. both_ways has no ((has_name-Decides d.outputs name).1 at)))
