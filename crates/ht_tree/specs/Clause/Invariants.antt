-- Invariants: clauses that a state meets, and that no frame of the good machine leaves.
use Rattle.std.specs.Prelude.{◌≡◌, ◌<◌, ◌≤◌, ℕ, List, Bool, true, length}
use Rattle.std.specs.List.{All}
use Rattle.ht_net.specs.Circuit.Netlist.{Netlist}
use Rattle.ht_net.specs.Detect.Detection.{IsState}
use Rattle.ht_tree.specs.Walk.Walks.{IsComplete}
use Rattle.ht_tree.specs.declared.clause.Clause.{Clause}
use Rattle.ht_tree.specs.Clause.Clauses.{IsClause, literals_of, literals_of_each, meets_each}
use Rattle.ht_tree.specs.Clause.ClauseWindows.{closing_window, judge_under}

-- an invariant has so many clauses at most
abbrev pub max_clauses : ℕ
max_clauses = 32

-- the walk of a clause is a complete one of its closing window under clauses
abbrev pub IsClosedUnder : Netlist → List Clause → Clause → Type 0
IsClosedUnder c clauses clause =
    IsComplete (judge_under (closing_window c (literals_of_each clauses) (literals_of clause))) clause.tokens

-- An invariant: a state, and some clauses that it meets, each with a complete walk of its closing window under all of
-- them.
pub record IsInvariant (c : Netlist) (state : List Bool) (clauses : List Clause) : Type 0 where
  pub held : IsState c state
  pub some : 0 < length clauses
  pub few : length clauses ≤ max_clauses
  pub known : All (IsClause c) clauses
  pub met : meets_each (literals_of_each clauses) state ≡ true
  pub closed : All (IsClosedUnder c clauses) clauses
