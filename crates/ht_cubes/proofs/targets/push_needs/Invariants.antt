use Rattle.std.proofs.Common.{◌≡◌, ◌++◌, ◌∷◌, [], map, take}
use Rattle.ht_cubes.specs.Formula.{needs, positive}
use Rattle.ht_cubes.proofs.targets.push_needs.Given as goal

abbrev pub invariant-rails : goal.invariant-rails
invariant-rails l = l.rows ≡ l.initial.rows
    ++ map (λ r. needs (positive l.variable) (r ∷ [])) (take l.rail-index l.target)
