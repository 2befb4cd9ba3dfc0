-- A round under way: the clauses before an index are done.
use Rattle.std.specs.Prelude.{◌≡◌, ◌≤◌, ℕ, List, ◌++◌, true, Option, length, take, drop}
use Rattle.ht_net.specs.Circuit.Netlist.{Netlist}
use Rattle.ht_tree.specs.declared.token.Token.{Token}
use Rattle.ht_tree.specs.declared.clause.Clause.{Clause}
use Rattle.ht_invariant.specs.Trials.{knows_each}
use Rattle.ht_invariant.specs.ClosingRounds.{AreClosingAnswers, IsClosingRound, clauses_kept}

-- where the searches of the rest lead
abbrev pub LeadsToRound : Netlist → ℕ → List Clause → List Clause → List Clause → Type 0
LeadsToRound c budget initial before rest = (walks : List (Option (List Token)))
    → AreClosingAnswers c budget before rest walks → IsClosingRound c budget initial (before ++ clauses_kept rest walks)

-- So far in a round: the clauses before index i are done.
pub record IsUnderWay (c : Netlist) (budget : ℕ) (initial clauses : List Clause) (i : ℕ) : Type 0 where
  pub within : i ≤ length clauses
  pub few : length clauses ≤ length initial
  pub known_each : knows_each c clauses ≡ true
  pub leads : LeadsToRound c budget initial (take i clauses) (drop i clauses)
