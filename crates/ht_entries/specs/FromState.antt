-- The form of an entry that refutes a fault from one named state: its lines, and as much of it as was read.
use Rattle.std.specs.Prelude.{◌≡◌, ◌≢◌, ◌<◌, ◌≤◌, ◌+◌, ℕ, List, [], ◌∷◌, ◌++◌, map, flat_map, Bool, ◌&&◌, ltb, eqb, length, Option, Some, None, codes}
use Rattle.std.specs.Fmt.{decimal}
use Rattle.std.specs.List.{All}
use Rattle.std.specs.Option.{option_map}
use Rattle.ht_net.specs.Circuit.Netlist.{max_dffs}
use Rattle.ht_texts.specs.Tests.{bit_code, vector_text}
use Rattle.ht_tree.specs.declared.token.Token.{Token}
use Rattle.ht_tree.specs.declared.clause.Clause.{Clause}
use Rattle.ht_tree.specs.declared.clause.Literal.{Literal}
use Rattle.ht_tree.specs.declared.entry.Entry.{Entry}
use Rattle.ht_tree.specs.declared.entry.Entry.TheVariants.{UntestableFrom}
use Rattle.ht_tree.specs.Clause.Invariants.{max_clauses}
use Rattle.ht_entries.specs.declared.proof_line.ProofLine.{ProofLine}
use Rattle.ht_entries.specs.declared.proof_line.ProofLine.TheVariants as line
use Rattle.ht_entries.specs.declared.from_state.FromStateLine.{FromStateLine}
use Rattle.ht_entries.specs.declared.from_state.FromStateLine.TheVariants as form
use Rattle.ht_entries.specs.declared.from_state.FromStatePart.{FromStatePart}
use Rattle.ht_entries.specs.LineWords.{IsNumber, IsIndex}
use Rattle.ht_entries.specs.PartWords.{walk_lines, AreTokenTexts, AreRisingIndices, IsWalkText, where_true, only_where, is_above}

-- ---- its lines

-- a literal: the number of its flip-flop, from 1, and its bit
abbrev pub literal_text : Literal → List ℕ
literal_text l = decimal (l.dff + 1) ++ codes " " ++ bit_code l.value ∷ []

-- the second literal of a clause after a space, if there is one
abbrev pub second_text : Option Literal → List ℕ
second_text None = []
second_text (Some l) = codes " " ++ literal_text l

-- the line that begins the entry, by the characters of its state
abbrev pub first_text : ℕ → List ℕ → List ℕ
first_text number bits = codes "entry " ++ decimal number ++ codes " untestable from " ++ bits

-- the text of a line of this form
abbrev pub from_state_text : FromStateLine → List ℕ
from_state_text (form.Begins number state) = first_text number (vector_text state)
from_state_text (form.Clause first second) = codes "clause " ++ literal_text first ++ second_text second

-- a state has a bit for each flip-flop, and at least one
abbrev pub IsStateText : List Bool → Type 0
IsStateText state = (0 < length state) × (length state ≤ max_dffs)

-- the second literal, if there is one, is of a later flip-flop
abbrev pub IsSecondText : Literal → Option Literal → Type 0
IsSecondText first None = Unit {0}
IsSecondText first (Some l) = (first.dff < l.dff) × IsIndex l.dff

-- a line of this form has a text
abbrev pub IsFromStateLine : FromStateLine → Type 0
IsFromStateLine (form.Begins number state) = IsNumber number × IsStateText state
IsFromStateLine (form.Clause first second) = IsIndex first.dff × IsSecondText first second

-- the bytes are the text of this line
pub record IsFromStateLineText (bytes : List ℕ) (l : FromStateLine) : Type 0 where
  pub text : bytes ≡ from_state_text l
  pub has_text : IsFromStateLine l

-- the bytes are the line of no clause
abbrev pub IsNoClauseLine : List ℕ → Type 0
IsNoClauseLine bytes = (first : Literal) (second : Option Literal) → IsFromStateLine (form.Clause first second)
    → bytes ≢ from_state_text (form.Clause first second)

-- the bytes begin no entry of this form
abbrev pub IsNoFirstLine : List ℕ → Type 0
IsNoFirstLine bytes = (number : ℕ) (state : List Bool) → IsFromStateLine (form.Begins number state)
    → bytes ≢ from_state_text (form.Begins number state)

-- ---- as much of the entry as was read

-- the line of a clause, and its walk
abbrev pub clause_lines : Clause → List ProofLine
clause_lines clause = line.FromState (form.Clause clause.first clause.second) ∷ map line.Token clause.tokens

-- the lines of as much of the entry as was read: its first line, its clauses, its flip-flops and its walk
abbrev pub from_state_lines : ℕ → FromStatePart → List ProofLine
from_state_lines number p =
    line.FromState (form.Begins number p.state) ∷ flat_map clause_lines p.clauses ++ map line.Z p.z ++ walk_lines p.walk

-- A clause has a text, and each token of its walk has one.
pub record IsClauseText (clause : Clause) : Type 0 where
  pub first : IsIndex clause.first.dff
  pub second : IsSecondText clause.first clause.second
  pub tokens : AreTokenTexts clause.tokens

-- nothing stands before the first clause
pub record IsEmptySoFar (p : FromStatePart) : Type 0 where
  pub no_z : p.z ≡ []
  pub no_walk : p.walk ≡ None

-- The part of the entry has a text.
pub record IsFromStateText (p : FromStatePart) : Type 0 where
  pub state : IsStateText p.state
  pub each : All IsClauseText p.clauses
  pub few : length p.clauses ≤ max_clauses
  pub z : AreRisingIndices p.z
  pub walk : IsWalkText p.walk
  pub begun : p.clauses ≡ [] → IsEmptySoFar p

-- ---- a line more of it

-- what the first line begins
abbrev pub begun_by : List Bool → FromStatePart
begun_by state = record { state = state; clauses = []; z = []; walk = None }

-- a clause of which no token was read
abbrev pub new_clause : Literal → Option Literal → Clause
new_clause first second = record { first = first; second = second; tokens = [] }

-- a token more in the walk of the last clause
abbrev pub add_clause_token : List Clause → Token → Option (List Clause)
add_clause_token [] t = None
add_clause_token (c ∷ []) t = Some (record c { tokens = c.tokens ++ t ∷ [] } ∷ [])
add_clause_token (c ∷ next ∷ clauses) t = option_map (λ rest. c ∷ rest) (add_clause_token (next ∷ clauses) t)

-- there is no flip-flop yet, after which no clause comes
abbrev pub is_in_clauses : FromStatePart → Bool
is_in_clauses p = eqb (length p.z) 0

-- there is a clause
abbrev pub has_clause : FromStatePart → Bool
has_clause p = ltb 0 (length p.clauses)

-- the part with these clauses in place of its own
abbrev pub with_clauses : FromStatePart → List Clause → FromStatePart
with_clauses p clauses = record p { clauses = clauses }

-- before the walk of the window: a clause, a token of its walk, a flip-flop, or the walk begins
abbrev pub grow_before_walk : FromStatePart → ProofLine → Option FromStatePart
grow_before_walk p (line.FromState (form.Clause first second)) =
    where_true (is_in_clauses p && ltb (length p.clauses) max_clauses)
    (with_clauses p (p.clauses ++ new_clause first second ∷ []))
grow_before_walk p (line.Token t) =
    option_map (with_clauses p) (only_where (is_in_clauses p) (add_clause_token p.clauses t))
grow_before_walk p (line.Z j) = where_true (has_clause p && is_above p.z j) (record p { z = p.z ++ j ∷ [] })
grow_before_walk p line.Walk = where_true (has_clause p) (record p { walk = Some [] })
grow_before_walk p other = None

-- in the walk of the window: a token more
abbrev pub grow_window_walk : FromStatePart → List Token → ProofLine → Option FromStatePart
grow_window_walk p tokens (line.Token t) = Some (record p { walk = Some (tokens ++ t ∷ []) })
grow_window_walk p tokens other = None

-- the part with one line more, by whether the walk of the window has begun
abbrev pub grow_from_state_by : FromStatePart → Option (List Token) → ProofLine → Option FromStatePart
grow_from_state_by p None l = grow_before_walk p l
grow_from_state_by p (Some tokens) l = grow_window_walk p tokens l

-- the part with the line
abbrev pub grow_from_state : FromStatePart → ProofLine → Option FromStatePart
grow_from_state p l = grow_from_state_by p p.walk l

-- the entry of a part at which nothing is missing
abbrev pub from_state_entry : FromStatePart → Option Entry
from_state_entry p = option_map (λ tokens. UntestableFrom p.state p.clauses p.z tokens) p.walk
