-- The invariant that is found from a state: its candidates, and what the rounds leave of them.
use Rattle.std.specs.Prelude.{◌+◌, ◌-◌, ℕ, List, [], ◌∷◌, map, take, filter, flat_map, min, Bool, true, false, Option, Some, None, length, get_or}
use Rattle.std.specs.List.{list_all, range_with_len}
use Rattle.ht_net.specs.Circuit.Netlist.{Netlist}
use Rattle.ht_net.specs.Frames.Frame.{run_state}
use Rattle.ht_net.specs.Frames.Faults.{bool_rules}
use Rattle.ht_random.specs.RandomVectors.{random_vectors}
use Rattle.ht_tree.specs.declared.clause.Literal.{Literal}
use Rattle.ht_tree.specs.declared.clause.Clause.{Clause}
use Rattle.ht_tree.specs.Clause.Clauses.{literals_of, meets}
use Rattle.ht_tree.specs.Clause.Invariants.{max_clauses}
use Rattle.ht_invariant.specs.ClosingRounds.{AreClosingRounds}

-- a literal, and a clause that has no walk yet
abbrev pub literal : ℕ → Bool → Literal
literal dff value = record { dff = dff; value = value }

-- a clause of one literal or two, without a walk
abbrev pub clause_of : Literal → Option Literal → Clause
clause_of first second = record { first = first; second = second; tokens = [] }

-- the four clauses of two flip-flops
abbrev pub of_two : ℕ → ℕ → List Clause
of_two i j =
    clause_of (literal i false) (Some (literal j false)) ∷ clause_of (literal i false) (Some (literal j true))
    ∷ clause_of (literal i true) (Some (literal j false)) ∷ clause_of (literal i true) (Some (literal j true)) ∷ []

-- a second literal is of one of so many flip-flops after the first
abbrev pub reach : ℕ
reach = 8

-- The candidates of a state for flip-flop i: that its latch keeps its bit, and then the clauses of it with each of the
-- next flip-flops. Those that the state doesn't meet drop out with the ones that a frame breaks.
abbrev pub candidates_at : List Bool → ℕ → List Clause
candidates_at state i = clause_of (literal i (get_or state i false)) None
    ∷ flat_map (of_two i) (range_with_len (i + 1) (min reach (length state - (i + 1))))

-- the candidates of a state, flip-flop by flip-flop, in the order in which they are tried
abbrev pub candidates_of : List Bool → List Clause
candidates_of state = flat_map (candidates_at state) (range_with_len 0 (length state))

-- so many frames are tried
unfoldable pub tried_frames : ℕ
tried_frames = 64

-- the state, and the states after 1, 2, .. frames with the random vectors of seed 0
abbrev pub state_after : Netlist → List Bool → ℕ → List Bool
state_after c state k = run_state c (bool_rules None) state (random_vectors c.inputs k 0)

-- the states of the good machine along the random vectors, from the named one on
abbrev pub tried_states : Netlist → List Bool → List (List Bool)
tried_states c state = map (state_after c state) (range_with_len 0 (tried_frames + 1))

-- each of some states meets a clause
abbrev pub is_met_by_each : List (List Bool) → Clause → Bool
is_met_by_each states clause = list_all (λ state. meets state (literals_of clause)) states

-- the candidates with which the rounds begin: the first ones that hold at each of these states
abbrev pub first_clauses : Netlist → List Bool → List Clause
first_clauses c state = take max_clauses (filter (is_met_by_each (tried_states c state)) (candidates_of state))

-- The clauses that the rounds leave of the candidates.
pub record FindsClauses (c : Netlist) (budget : ℕ) (state : List Bool) (clauses : List Clause) : Type 0 where
  pub dropping : ℕ
  pub rounds : AreClosingRounds c budget dropping (first_clauses c state) clauses
