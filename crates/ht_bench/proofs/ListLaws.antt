-- Members of lists.
use Rattle.std.proofs.Common.{zero, suc, ◌≡◌, ◌⊎◌, inl, inr, List, [], ◌∷◌, arith, Contains}

-- what a list contains is its first member, or the rest contains it
pub contains_cases : {A : Type 0} (x : A) (xs : List A) (y : A) → Contains (x ∷ xs) y → (x ≡ y) ⊎ Contains xs y
contains_cases x xs y (zero, lt, e) = inl e
contains_cases x xs y (suc k, lt, e) = inr (k, omega (arith, lt), e)

-- an empty list contains nothing
pub contains_none : {A : Type 0} (y : A) → ¬ Contains [] y
contains_none y h = omega (arith, h.1)
