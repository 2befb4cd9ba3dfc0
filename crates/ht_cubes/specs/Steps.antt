-- Steps: clauses that follow from those before them, each with the hints that show it.
use Rattle.std.specs.Prelude.{◌≡◌, ◌<◌, ◌≤◌, ◌-◌, ◌⊎◌, ℕ, List, [], ◌∷◌, ◌++◌, map, length, get_or}
use Rattle.std.specs.List.{All, Contains}
use Rattle.ht_cubes.specs.declared.signed_var.SignedVar.{SignedVar}
use Rattle.ht_cubes.specs.declared.clause_step.ClauseStep.{ClauseStep}
use Rattle.ht_cubes.specs.Formula.{complement}

-- What is true so far makes a signed variable false: its complement is true.
abbrev pub IsFalse : List SignedVar → SignedVar → Type 0
IsFalse facts l = Contains facts (complement l)

-- A clause leaves one signed variable: it is neither true nor false, and every other in the clause is false.
pub record Leaves (facts clause : List SignedVar) (l : SignedVar) : Type 0 where
  pub inside : Contains clause l
  pub not_true : ¬ Contains facts l
  pub not_false : ¬ IsFalse facts l
  pub others : All (λ other. (other ≡ l) ⊎ IsFalse facts other) clause

-- A clause fails: all that stands in it is false.
abbrev pub Fails : List SignedVar → List SignedVar → Type 0
Fails facts clause = All (IsFalse facts) clause

-- The clause of a number, counted from 1.
abbrev pub clause_at : List (List SignedVar) → ℕ → List SignedVar
clause_at clauses n = get_or clauses (n - 1) []

-- A number of a clause of a list.
abbrev pub IsNumber : List (List SignedVar) → ℕ → Type 0
IsNumber clauses n = (0 < n) × (n ≤ length clauses)

-- Hints lead to a clause that fails: each is the number of a clause that leaves one signed variable, which is true from
-- there on, and the last, and none before it, is that of a clause that fails.
abbrev pub Clash : List (List SignedVar) → List SignedVar → List ℕ → Type 0
Clash clauses facts [] = ⊥
Clash clauses facts (n ∷ []) = IsNumber clauses n × Fails facts (clause_at clauses n)
Clash clauses facts (n ∷ m ∷ hints) = IsNumber clauses n
    × ((l : SignedVar) × Leaves facts (clause_at clauses n) l × Clash clauses (facts ++ l ∷ []) (m ∷ hints))

-- No signed variable of a clause is the opposite of another.
abbrev pub HasNoOpposites : List SignedVar → Type 0
HasNoOpposites clause = (l : SignedVar) → Contains clause l → ¬ Contains clause (complement l)

-- A step passes after some clauses: it has no opposites, and where all that stands in it is false its hints clash.
pub record StepPasses (clauses : List (List SignedVar)) (step : ClauseStep) : Type 0 where
  pub plain : HasNoOpposites step.literals
  pub clash : Clash clauses (map complement step.literals) step.hints

-- Each step passes after the clauses and the steps before it; a step's number is the next one.
abbrev pub StepsPass : List (List SignedVar) → List ClauseStep → Type 0
StepsPass clauses [] = Unit {0}
StepsPass clauses (step ∷ more) = StepPasses clauses step × StepsPass (clauses ++ step.literals ∷ []) more

-- The step that stands for none.
abbrev pub no_step : ClauseStep
no_step = record { literals = []; hints = [] }

-- The last of the steps, of at least one, is the empty clause.
abbrev pub EndsEmpty : List ClauseStep → Type 0
EndsEmpty steps = (0 < length steps) × ((get_or steps (length steps - 1) no_step).literals ≡ [])

-- The variables of a clause are from 1 to a number.
abbrev pub IsWithin : ℕ → List SignedVar → Type 0
IsWithin last clause = All (λ (l : SignedVar). (0 < l.variable) × (l.variable ≤ last)) clause
