-- A refutation from one named state, and what it means.
use Rattle.std.specs.Prelude.{◌≡◌, ◌<◌, ℕ, List, Bool, true, None, length, get_or}
use Rattle.ht_net.specs.declared.fault.Fault.{Fault}
use Rattle.ht_net.specs.Circuit.Netlist.{Netlist}
use Rattle.ht_net.specs.Frames.Frame.{run_state}
use Rattle.ht_net.specs.Frames.Faults.{bool_rules}
use Rattle.ht_net.specs.Detect.Detection.{Detects}
use Rattle.ht_net.specs.Detect.Silence.{Silent}
use Rattle.ht_tree.specs.declared.token.Token.{Token}
use Rattle.ht_tree.specs.Walk.Walks.{IsComplete}
use Rattle.ht_tree.specs.Record.Rising.{Rises}
use Rattle.ht_tree.specs.Window.Decisions.{is_in}
use Rattle.ht_tree.specs.declared.clause.Clause.{Clause}
use Rattle.ht_tree.specs.Clause.Clauses.{literals_of_each, meets_each}
use Rattle.ht_tree.specs.Clause.ClauseWindows.{window_under, judge_under}
use Rattle.ht_tree.specs.Clause.Invariants.{IsInvariant}
use Rattle.ht_tree.specs.Clause.SealedInClauses.{SealedIn}

-- A refutation from a state: an invariant of that state, a rising set of flip-flops, and a complete walk of its
-- one-frame window under the clauses.
pub record RefutesFrom (c : Netlist) (fault : Fault) (state : List Bool) (clauses : List Clause) (z : List ℕ)
    (tokens : List Token) : Type 0 where
  pub invariant : IsInvariant c state clauses
  pub rises : Rises z
  pub known : (i : ℕ) → i < length z → get_or z i 0 < length c.dffs
  pub complete : IsComplete (judge_under (window_under c fault z (literals_of_each clauses))) tokens

-- The good machine's states meet the clauses in every run from the state; from states that meet them, a difference
-- can't leave the set; both machines give equal outputs from the state; and no list of vectors detects the fault.
pub record IsUntestableFrom (c : Netlist) (fault : Fault) (state : List Bool) (clauses : List Clause)
    (z : List ℕ) : Type 0 where
  pub kept : (list : List (List Bool))
      → meets_each (literals_of_each clauses) (run_state c (bool_rules None) state list) ≡ true
  pub sealed : SealedIn c fault (is_in z) (literals_of_each clauses)
  pub silent : Silent c fault state
  pub undetected : (list : List (List Bool)) (t o : ℕ) → ¬ Detects c fault list t o
