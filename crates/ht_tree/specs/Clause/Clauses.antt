-- Clauses on the latches: when a state meets one, and when the decisions of a path meet or break it.
use Rattle.std.specs.Prelude.{◌<◌, ◌+◌, ℕ, List, [], ◌∷◌, map, Bool, true, false, not, Option, Some, None, length, get_or}
use Rattle.std.specs.List.{All, list_any, list_all}
use Rattle.ht_tern.specs.declared.tern.Tern.{Tern}
use Rattle.ht_tern.specs.declared.tern.Tern.TheVariants.{Zero, One, Unk}
use Rattle.ht_net.specs.Circuit.Netlist.{Netlist}
use Rattle.ht_tree.specs.declared.token.Assign3.{Assign3}
use Rattle.ht_tree.specs.Window.Decisions.{decided_value}
use Rattle.ht_tree.specs.declared.clause.Literal.{Literal}
use Rattle.ht_tree.specs.declared.clause.Clause.{Clause}

-- a second literal, if there is one
abbrev pub second_of : Option Literal → List Literal
second_of None = []
second_of (Some literal) = literal ∷ []

-- the literals of a clause, one or two
abbrev pub literals_of : Clause → List Literal
literals_of clause = clause.first ∷ second_of clause.second

-- the literals of each clause
abbrev pub literals_of_each : List Clause → List (List Literal)
literals_of_each clauses = map literals_of clauses

-- a second literal's flip-flop is the circuit's, and comes after the first one's
abbrev pub IsSecond : Netlist → ℕ → Option Literal → Type 0
IsSecond c first None = Unit {0}
IsSecond c first (Some literal) = (first < literal.dff) × (literal.dff < length c.dffs)

-- A clause of a circuit: its flip-flops are the circuit's, and rise.
pub record IsClause (c : Netlist) (clause : Clause) : Type 0 where
  pub first : clause.first.dff < length c.dffs
  pub second : IsSecond c clause.first.dff clause.second

-- the flip-flops of some literals are the circuit's
abbrev pub AreKnown : Netlist → List Literal → Type 0
AreKnown c literals = All (λ (literal : Literal). literal.dff < length c.dffs) literals

-- the flip-flops of the literals of some clauses are the circuit's
abbrev pub AreKnownClauses : Netlist → List (List Literal) → Type 0
AreKnownClauses c clauses = All (AreKnown c) clauses

-- a bit is this one
abbrev pub is_bit : Bool → Bool → Bool
is_bit true bit = bit
is_bit false bit = not bit

-- a state's latch is as a literal says
abbrev pub meets_literal : List Bool → Literal → Bool
meets_literal state literal = is_bit literal.value (get_or state literal.dff false)

-- A state meets a clause where some literal's latch has its bit.
abbrev pub meets : List Bool → List Literal → Bool
meets state literals = list_any (meets_literal state) literals

-- a state meets each of some clauses
abbrev pub meets_each : List (List Literal) → List Bool → Bool
meets_each clauses state = list_all (meets state) clauses

-- what was decided of a variable is the bit
abbrev pub is_decided_to : Bool → Option Tern → Bool
is_decided_to bit None = false
is_decided_to bit (Some Zero) = not bit
is_decided_to bit (Some One) = bit
is_decided_to bit (Some Unk) = false

-- a value was decided of a variable, and not the bit
abbrev pub is_decided_against : Bool → Option Tern → Bool
is_decided_against bit None = false
is_decided_against bit (Some value) = not (is_decided_to bit (Some value))

-- what a path decided for a literal's latch; where the two machines may differ there, for its good half
abbrev pub latch_value : Netlist → List Assign3 → Literal → Option Tern
latch_value c path literal = decided_value path (c.inputs + literal.dff)

-- A path meets a clause where it decides some literal's latch to its bit.
abbrev pub path_meets : Netlist → List Assign3 → List Literal → Bool
path_meets c path literals =
    list_any (λ (literal : Literal). is_decided_to literal.value (latch_value c path literal)) literals

-- A path breaks a clause where it decides each literal's latch to another value.
abbrev pub path_breaks : Netlist → List Assign3 → List Literal → Bool
path_breaks c path literals =
    list_all (λ (literal : Literal). is_decided_against literal.value (latch_value c path literal)) literals
