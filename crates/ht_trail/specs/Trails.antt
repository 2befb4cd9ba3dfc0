-- Cells and the trail of what they held before.
use Rattle.std.specs.Prelude.{◌≡◌, ◌<◌, ℕ, List, [], ◌∷◌, ◌++◌, set, drop}
use Rattle.std.specs.List.{All}
use Rattle.ht_trail.specs.declared.cells.Saved.{Saved}

-- What each cell holds, and what cells held before, the last change last.
pub record CellsState (V : Type 0) : Type 0 where
  pub values : List V
  pub trail : List (Saved V)

-- the values before the changes on a trail: the last is taken back first
abbrev pub restored : {V : Type 0} → List V → List (Saved V) → List V
restored values [] = values
restored values (s ∷ trail) = set (restored values trail) s.index s.value

-- the indices on a trail are below n
abbrev pub IsTrailBelow : {V : Type 0} → ℕ → List (Saved V) → Type 0
IsTrailBelow {V} n trail = All (λ (s : Saved V). s.index < n) trail

-- what the cells held when the trail had m changes
abbrev pub at_mark : {V : Type 0} → CellsState V → ℕ → List V
at_mark c m = restored c.values (drop m c.trail)

-- cells b are cells a some changes later, and the trail takes them back to a
pub record IsLater {V : Type 0} (a b : CellsState V) : Type 0 where
  pub since : List (Saved V)
  pub trail : b.trail ≡ a.trail ++ since
  pub values : restored b.values since ≡ a.values
