-- What a search answers.
use Rattle.std.specs.Prelude.{ℕ}
use Rattle.ht_tree.specs.Walk.Walks.{Node}
use Rattle.ht_tree.specs.Walk.Searches.{Guide, FindsAt, Closes, SpendsAt}
use Rattle.ht_search.specs.declared.outcome.Outcome.{Outcome}
use Rattle.ht_search.specs.declared.outcome.Outcome.TheVariants.{Found, Closed, Spent}

-- The outcome of a search that goes by a guide and keeps to a budget, where the problem then stands at a node.
abbrev pub IsOutcome : Guide → ℕ → ℕ → Node → Outcome → Type 0
IsOutcome g budget unit n (Found tokens) = FindsAt g budget unit tokens.items n
IsOutcome g budget unit n (Closed tokens) = Closes g budget unit tokens.items
IsOutcome g budget unit n (Spent tokens) = SpendsAt g budget unit tokens.items n

-- the search is closed
abbrev pub IsClosed : Outcome → Type 0
IsClosed (Found tokens) = ⊥
IsClosed (Closed tokens) = Unit {0}
IsClosed (Spent tokens) = ⊥

-- the search is spent
abbrev pub IsSpent : Outcome → Type 0
IsSpent (Found tokens) = ⊥
IsSpent (Closed tokens) = ⊥
IsSpent (Spent tokens) = Unit {0}
