-- What decisions, and sets of next states, make of clauses.
use Rattle.std.specs.Prelude.{◌+◌, ◌&&◌, ℕ, List, [], Bool, not, if◌then◌else◌, get_or, Option, None}
use Rattle.std.specs.List.{list_any, list_all}
use Rattle.ht_net.specs.Circuit.Netlist.{Netlist}
use Rattle.ht_tern.specs.declared.tern.Tern.{Tern}
use Rattle.ht_tern.specs.Gate.{tern_of}
use Rattle.ht_pairs.specs.Pairs.{Pair, pair, is_member}
use Rattle.ht_tree.specs.declared.token.Status3.{Status3}
use Rattle.ht_tree.specs.declared.token.Status3.TheVariants.{Dead, Sure, Open}
use Rattle.ht_tree.specs.Window.Windows.{is_undetermined}
use Rattle.ht_tree.specs.declared.clause.Clause.{Clause}
use Rattle.ht_tree.specs.declared.clause.Literal.{Literal}
use Rattle.ht_tree.specs.Clause.Clauses.{AreKnown, is_decided_against, is_decided_to, literals_of}
use Rattle.ht_tree.specs.Clause.ClauseWindows.{open_if_sure}

-- the flip-flops of a clause are the circuit's
abbrev pub IsKnownClause : Netlist → Clause → Type 0
IsKnownClause c clause = AreKnown c (literals_of clause)

-- what was decided for a literal's latch, where the latches have the variables from the first on
abbrev pub value_in : List (Option Tern) → ℕ → Literal → Option Tern
value_in decisions first literal = get_or decisions (first + literal.dff) None

-- decisions meet a clause: some literal's latch was decided to its bit
abbrev pub meets_in : List (Option Tern) → ℕ → List Literal → Bool
meets_in decisions first literals =
    list_any (λ (literal : Literal). is_decided_to literal.value (value_in decisions first literal)) literals

-- decisions break a clause: each literal's latch was decided to another value
abbrev pub breaks_in : List (Option Tern) → ℕ → List Literal → Bool
breaks_in decisions first literals =
    list_all (λ (literal : Literal). is_decided_against literal.value (value_in decisions first literal)) literals

-- what clauses make of a status, by decisions
abbrev pub under_in : List (Option Tern) → ℕ → List Clause → Status3 → Status3
under_in decisions first clauses status =
    if list_any (λ (clause : Clause). breaks_in decisions first (literals_of clause)) clauses then Dead
    else if list_all (λ (clause : Clause). meets_in decisions first (literals_of clause)) clauses then status
    else open_if_sure status

-- the next states of these sets may miss a literal: its flip-flop may take the other bit
abbrev pub may_miss_in : List (List Pair) → Literal → Bool
may_miss_in sets literal =
    is_member (pair (tern_of (not literal.value)) (tern_of (not literal.value))) (get_or sets literal.dff [])

-- the next states of these sets miss a literal for certain: its flip-flop takes the other bit and nothing else
abbrev pub must_miss_in : List (List Pair) → Literal → Bool
must_miss_in sets literal = may_miss_in sets literal && not (is_undetermined (get_or sets literal.dff []))

-- the status of a window that looks for a breach of a clause, by the sets of next states
abbrev pub breach_in : List (List Pair) → List Literal → Status3
breach_in sets literals =
    if list_all (must_miss_in sets) literals then Sure
    else if list_all (may_miss_in sets) literals then Open else Dead
