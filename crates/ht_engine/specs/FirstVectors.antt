-- The vectors that come before all work, and those of them that are left.
use Rattle.std.specs.Prelude.{◌≡◌, [], ◌∷◌, ◌++◌, ℕ, List, Vec, Bool, Option, MatchOption, length}
use Rattle.std.specs.declared.alloc.Global.{Global}
use Rattle.ht_random.specs.RandomVectors.{random_vectors}
use Rattle.ht_random.specs.WeightedVectors.{weighted_vectors}
use Rattle.ht_engine.specs.declared.settings.Settings.{Settings}

-- The vectors of n bits that come before all work: those that were given, then the random ones, and then the weighted
-- ones.
abbrev pub first_of : ℕ → Settings → List (List Bool)
first_of n s = s.first.list ++ random_vectors n s.random s.seed ++ weighted_vectors n s.weighted s.seed

-- How many bits each vector has, and the given, random and weighted vectors that are left.
pub record FirstView : Type 0 where
  pub width : ℕ
  pub given : List (List Bool)
  pub random : List (List Bool)
  pub weighted : List (List Bool)

-- All vectors that are left, in the order in which they come.
abbrev pub rest_of : FirstView → List (List Bool)
rest_of v = v.given ++ v.random ++ v.weighted

-- A vector was drawn: the first of those that were left.
pub record Draws (old : FirstView) (vector : List Bool) (new : FirstView) : Type 0 where
  pub first : rest_of old ≡ vector ∷ rest_of new
  pub wide : length vector ≡ old.width
  pub width : new.width ≡ old.width

-- The next vector was drawn, or none, and nothing is new, where none of these are left.
abbrev pub DrawsNext : List (List Bool) → FirstView → FirstView → Option (Vec Bool Global) → Type 0
DrawsNext left old new next =
    MatchOption next ((left ≡ []) × (new ≡ old)) (λ (vector : Vec Bool Global). Draws old vector.items new)
