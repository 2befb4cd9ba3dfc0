-- What variables have which values, and how clauses stand under them.
use Rattle.std.specs.Prelude.{◌≡◌, ◌<◌, ◌⊎◌, ◌↔◌, ℕ, List, Bool, not, get_or, Option, Some, None}
use Rattle.std.specs.List.{All, Contains}
use Rattle.ht_cubes.specs.declared.signed_var.SignedVar.{SignedVar}
use Rattle.ht_cubes.specs.declared.standing.Standing.{Standing}
use Rattle.ht_cubes.specs.declared.standing.Standing.TheVariants.{Open, Left, Failed}

-- A signed variable is true where the variables have these values.
abbrev pub IsTrueIn : List (Option Bool) → SignedVar → Type 0
IsTrueIn values l = get_or values l.variable None ≡ Some l.value

-- A signed variable is false where the variables have these values.
abbrev pub IsFalseIn : List (Option Bool) → SignedVar → Type 0
IsFalseIn values l = get_or values l.variable None ≡ Some (not l.value)

-- The values say exactly the facts.
abbrev pub SayFacts : List SignedVar → List (Option Bool) → Type 0
SayFacts facts values = (l : SignedVar) → Contains facts l ↔ IsTrueIn values l

-- All of a clause is false, or all but one, which has no value.
unfoldable pub StandsSo : List (Option Bool) → List SignedVar → Option SignedVar → Type 0
StandsSo values clause None = All (IsFalseIn values) clause
StandsSo values clause (Some l) = Contains clause l × (get_or values l.variable None ≡ None)
    × All (λ other. (other ≡ l) ⊎ IsFalseIn values other) clause

-- Something of the clause is true, or two different signed variables have no value.
abbrev pub IsOpen : List (Option Bool) → List SignedVar → Type 0
IsOpen values clause = ((l : SignedVar) × Contains clause l × IsTrueIn values l)
    ⊎ ((l : SignedVar) × (m : SignedVar) × Contains clause l × Contains clause m × (¬ (l ≡ m))
    × (get_or values l.variable None ≡ None) × (get_or values m.variable None ≡ None))

-- How a clause stands.
abbrev pub IsStanding : List (Option Bool) → List SignedVar → Standing → Type 0
IsStanding values clause Open = IsOpen values clause
IsStanding values clause (Left l) = StandsSo values clause (Some l)
IsStanding values clause Failed = StandsSo values clause None

-- The variables of a clause are below a number.
abbrev pub IsBelow : ℕ → List SignedVar → Type 0
IsBelow count clause = All (λ (l : SignedVar). l.variable < count) clause
