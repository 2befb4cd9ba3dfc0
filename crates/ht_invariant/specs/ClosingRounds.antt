-- The rounds that leave an invariant's clauses: each searches the closing window of each clause under the clauses that
-- are still kept.
use Rattle.std.specs.Prelude.{◌≡◌, ◌<◌, ◌⊎◌, ℕ, suc, zero, List, [], ◌∷◌, ◌++◌, Option, Some, None, length}
use Rattle.ht_net.specs.Circuit.Netlist.{Netlist}
use Rattle.ht_tree.specs.declared.token.Assign3.{Assign3}
use Rattle.ht_tree.specs.declared.token.Token.{Token}
use Rattle.ht_tree.specs.Walk.Searches.{Guide, FindsAt, Closes, SpendsAt, node_at}
use Rattle.ht_tree.specs.declared.clause.Clause.{Clause}
use Rattle.ht_tree.specs.Clause.Clauses.{literals_of, literals_of_each}
use Rattle.ht_tree.specs.Clause.ClauseWindows.{closing_window}
use Rattle.ht_tree.specs.Clause.ClauseSearches.{guide_under}

-- what the search of a clause's closing window under clauses goes by
abbrev pub closing_guide : Netlist → List Clause → Clause → Guide
closing_guide c clauses clause = guide_under (closing_window c (literals_of_each clauses) (literals_of clause))

-- A search that isn't closed: it finds what it looks for, or spends its budget.
abbrev pub EndsOpen : Guide → ℕ → Type 0
EndsOpen g budget = (tokens : List Token) × (path : List Assign3)
    × (FindsAt g budget 1 tokens (node_at path) ⊎ SpendsAt g budget 1 tokens (node_at path))

-- what a search answers: the walk of one that is closed, none for another
abbrev pub IsClosingAnswer : Guide → ℕ → Option (List Token) → Type 0
IsClosingAnswer g budget None = EndsOpen g budget
IsClosingAnswer g budget (Some tokens) = Closes g budget 1 tokens

-- a clause stays with the walk that closes it, and is dropped without one
abbrev pub clause_kept : Clause → Option (List Token) → List Clause
clause_kept clause None = []
clause_kept clause (Some tokens) = record clause { tokens = tokens } ∷ []

-- The searches of a round, one for each clause, where some clauses were kept before them.
abbrev pub AreClosingAnswers : Netlist → ℕ → List Clause → List Clause → List (Option (List Token)) → Type 0
AreClosingAnswers c budget before [] [] = Unit {0}
AreClosingAnswers c budget before [] (walk ∷ walks) = ⊥
AreClosingAnswers c budget before (clause ∷ clauses) [] = ⊥
AreClosingAnswers c budget before (clause ∷ clauses) (walk ∷ walks) =
    IsClosingAnswer (closing_guide c (before ++ clause ∷ clauses) clause) budget walk
    × AreClosingAnswers c budget (before ++ clause_kept clause walk) clauses walks

-- the clauses that stay
abbrev pub clauses_kept : List Clause → List (Option (List Token)) → List Clause
clauses_kept [] walks = []
clauses_kept (clause ∷ clauses) [] = []
clauses_kept (clause ∷ clauses) (walk ∷ walks) = clause_kept clause walk ++ clauses_kept clauses walks

-- One round: what it makes of clauses.
pub record IsClosingRound (c : Netlist) (budget : ℕ) (clauses kept : List Clause) : Type 0 where
  pub walks : List (Option (List Token))
  pub answers : AreClosingAnswers c budget [] clauses walks
  pub stay : kept ≡ clauses_kept clauses walks

-- The rounds from some clauses on, of which so many drop a clause: the first round after them that drops none gives the
-- walks.
abbrev pub AreClosingRounds : Netlist → ℕ → ℕ → List Clause → List Clause → Type 0
AreClosingRounds c budget zero clauses kept = IsClosingRound c budget clauses kept × (length kept ≡ length clauses)
AreClosingRounds c budget (suc n) clauses kept = (next : List Clause)
    × (IsClosingRound c budget clauses next × (length next < length clauses) × AreClosingRounds c budget n next kept)
