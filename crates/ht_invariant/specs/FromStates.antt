-- What a refutation from a state answers, and what that means.
use Rattle.std.specs.Prelude.{◌≡◌, ℕ, List, Bool, true, length}
use Rattle.ht_net.specs.declared.fault.Fault.{Fault}
use Rattle.ht_net.specs.Circuit.Netlist.{Netlist}
use Rattle.ht_tree.specs.declared.clause.Clause.{Clause}
use Rattle.ht_tree.specs.declared.clause.Literal.{Literal}
use Rattle.ht_tree.specs.declared.token.Token.{Token}
use Rattle.ht_tree.specs.declared.told.Told.{Told}
use Rattle.ht_tree.specs.Walk.Walks.{IsOpen}
use Rattle.ht_tree.specs.Record.Rising.{Rises}
use Rattle.ht_tree.specs.Window.Decisions.{is_in}
use Rattle.ht_tree.specs.Walk.Searches.{Closes, Guide}
use Rattle.ht_tree.specs.Record.ToldChains.{is_output, states_of}
use Rattle.ht_tree.specs.Clause.Clauses.{literals_of_each}
use Rattle.ht_tree.specs.Clause.ClauseWindows.{judge_under, window_under}
use Rattle.ht_tree.specs.Clause.ClauseSearches.{guide_under}
use Rattle.ht_tree.specs.Clause.SealedInClauses.{SealedIn}
use Rattle.ht_tree.specs.Record.RefutationsFrom.{IsUntestableFrom, RefutesFrom}
use Rattle.ht_tree.specs.Record.ToldUnder.{TellsUnder}
use Rattle.ht_oneframe.specs.Rounds.{FindsFrame, FindsStates, SpendsIn}
use Rattle.ht_invariant.specs.declared.refutation.FromState.{FromState}
use Rattle.ht_invariant.specs.declared.refutation.FromState.TheVariants as answer

-- what the search of the window of a set under clauses goes by
abbrev pub guide_from : Netlist → Fault → List (List Literal) → List ℕ → Guide
guide_from c fault clauses z = guide_under (window_under c fault z clauses)

-- The rounds before the last one, from no flip-flop on: each of them told a flip-flop, and those are the set's, in
-- rising order.
pub record FindsMembers (c : Netlist) (fault : Fault) (clauses : List (List Literal)) (budget : ℕ) (z : List ℕ) : Type 0
  where
    pub chain : List Told
    pub states : FindsStates c fault (guide_from c fault clauses) budget chain
    pub rises : Rises z
    pub same : (j : ℕ) → is_in z j ≡ is_in (states_of chain) j

-- the rounds that lead to each answer
abbrev pub IsFromState : Netlist → Fault → List (List Literal) → ℕ → FromState → Type 0
IsFromState c fault clauses budget (answer.Refuted z tokens) =
    FindsMembers c fault clauses budget z × Closes (guide_from c fault clauses z) budget 1 tokens
IsFromState c fault clauses budget (answer.Told z place sets) =
    FindsMembers c fault clauses budget z × (is_output place ≡ true)
    × FindsFrame c fault (guide_from c fault clauses) budget z (record { place = place; sets = sets })
IsFromState c fault clauses budget (answer.Spent z tokens) =
    FindsMembers c fault clauses budget z × SpendsIn (guide_from c fault clauses) budget z tokens

-- each set that seals the fault as long as the clauses are met has these flip-flops
abbrev pub LieInEverySealIn : Netlist → Fault → List (List Literal) → List ℕ → Type 0
LieInEverySealIn c fault clauses states =
    (z : ℕ → Bool) → SealedIn c fault z clauses → (j : ℕ) → is_in states j ≡ true → z j ≡ true

-- A refutation from the state with the least set: no list of any length shows a difference.
pub record RefutesLeastFrom (c : Netlist) (fault : Fault) (state : List Bool) (clauses : List Clause) (z : List ℕ)
    (tokens : List Token) : Type 0 where
  pub refutes : RefutesFrom c fault state clauses z tokens
  pub untestable : IsUntestableFrom c fault state clauses z
  pub least : LieInEverySealIn c fault (literals_of_each clauses) z

-- A frame that is told at an output under the clauses: no set seals the fault as long as they are met.
pub record TellsOutputUnder (c : Netlist) (fault : Fault) (clauses : List (List Literal)) (z : List ℕ) (told : Told)
    : Type 0 where
  pub tells : TellsUnder c fault clauses z told
  pub output : is_output told.place ≡ true
  pub lie : LieInEverySealIn c fault clauses z
  pub unsealed : (more : ℕ → Bool) → ¬ SealedIn c fault more clauses

-- An open walk of the window of the set under the clauses, of as many tokens as the budget has.
pub record SpendsUnder (c : Netlist) (fault : Fault) (clauses : List (List Literal)) (budget : ℕ) (z : List ℕ)
    (tokens : List Token) : Type 0 where
  pub lie : LieInEverySealIn c fault clauses z
  pub walk : IsOpen (judge_under (window_under c fault z clauses)) tokens
  pub exact : length tokens ≡ budget

-- what each answer means
abbrev pub FromStateHolds : Netlist → Fault → List Bool → List Clause → ℕ → FromState → Type 0
FromStateHolds c fault state clauses budget (answer.Refuted z tokens) = RefutesLeastFrom c fault state clauses z tokens
FromStateHolds c fault state clauses budget (answer.Told z place sets) =
    TellsOutputUnder c fault (literals_of_each clauses) z (record { place = place; sets = sets })
FromStateHolds c fault state clauses budget (answer.Spent z tokens) =
    SpendsUnder c fault (literals_of_each clauses) budget z tokens

-- the fault is refuted
abbrev pub IsRefutedFrom : FromState → Type 0
IsRefutedFrom (answer.Refuted z tokens) = Unit {0}
IsRefutedFrom (answer.Told z place sets) = ⊥
IsRefutedFrom (answer.Spent z tokens) = ⊥
