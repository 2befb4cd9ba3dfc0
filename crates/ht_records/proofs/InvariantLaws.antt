-- The good machine's states meet an invariant's clauses for ever.
use Rattle.std.proofs.Common.{◌≡◌, List, [], ◌∷◌, Bool, true, false, None, length, get_or, ◌∙◌, ap}
use Rattle.std.specs.List.{All}
use Rattle.std.proofs.lemmas.List.Elements.{All-map}
use Rattle.std.proofs.lemmas.List.Sums.{list_all-from_AllPass}
use Rattle.std.proofs.lemmas.List.FromFn.{length-map-range_with_len}
use Rattle.ht_net.specs.Circuit.Netlist.{Netlist, IsCircuit}
use Rattle.ht_net.specs.Frames.Frame.{next_state, run_state}
use Rattle.ht_net.specs.Frames.Faults.{bool_rules}
use Rattle.ht_net.specs.Detect.Detection.{IsState}
use Rattle.ht_tree.proofs.FittedLaws.{fitted, next_fitted}
use Rattle.ht_net.proofs.ValueLaws.{next_long}
use Rattle.ht_tree.specs.declared.clause.Literal.{Literal}
use Rattle.ht_tree.specs.declared.clause.Clause.{Clause}
use Rattle.ht_tree.specs.Clause.Clauses.{IsClause, literals_of, literals_of_each, meets, meets_each}
use Rattle.ht_tree.specs.Clause.Invariants.{IsClosedUnder, IsInvariant}
use Rattle.ht_records.proofs.MeetLaws.{clause_known, clauses_known}
use Rattle.ht_records.proofs.ClosingLaws.{closed_keeps}

-- frames lead from states that meet each clause to such states
abbrev pub AreKept : Netlist → List (List Literal) → Type 0
AreKept c clauses = (vector state : List Bool) → length vector ≡ c.inputs → IsState c state
    → meets_each clauses state ≡ true → meets_each clauses (next_state c (bool_rules None) vector state) ≡ true

-- A clause of the circuit, with a complete walk of its closing window.
record IsKept (c : Netlist) (clauses : List Clause) (clause : Clause) : Type 0 where
  pub is : IsClause c clause
  pub closed : IsClosedUnder c clauses clause

-- clauses that are each closed under all of them are kept by every frame of the good machine
pub closed_clauses_kept : (c : Netlist) (clauses : List Clause) → IsCircuit c → All (IsClause c) clauses
    → All (IsClosedUnder c clauses) clauses → AreKept c (literals_of_each clauses)
closed_clauses_kept c clauses circuit are closed vector state wide held met =
    let next = next_state c (bool_rules None) vector state in
    let each : All (λ (clause : Clause). meets next (literals_of clause) ≡ true) clauses = λ k d l.
    let clause : Clause = get_or clauses k d in
    closed_keeps c (literals_of_each clauses) (literals_of clause) clause.tokens circuit (clauses_known c clauses are)
    (clause_known c clause (are k d l)) (closed k d l) vector state wide held met in
    list_all-from_AllPass (meets next) (literals_of_each clauses)
    (All-map (λ (literals : List Literal). meets next literals ≡ true) literals_of clauses each)

-- the clauses of an invariant are kept by every frame of the good machine
pub invariant_kept : (c : Netlist) (state : List Bool) (clauses : List Clause) → IsCircuit c
    → IsInvariant c state clauses → AreKept c (literals_of_each clauses)
invariant_kept c state clauses circuit is = closed_clauses_kept c clauses circuit is.known is.closed

-- a vector of any width is read as one of the circuit's
pub kept_fitted : (c : Netlist) (clauses : List (List Literal)) → AreKept c clauses → (vector state : List Bool)
    → IsState c state → meets_each clauses state ≡ true
    → meets_each clauses (next_state c (bool_rules None) vector state) ≡ true
kept_fitted c clauses kept vector state held met =
    ap (meets_each clauses) (next_fitted c (bool_rules None) vector state)
    ∙ kept (fitted c.inputs false vector) state (length-map-range_with_len _ 0 c.inputs) held met

-- from a state that meets clauses which are kept, every run of the good machine ends in one that meets them
pub run_kept : (c : Netlist) (clauses : List (List Literal)) → AreKept c clauses → (list : List (List Bool))
    (state : List Bool) → IsState c state → meets_each clauses state ≡ true
    → meets_each clauses (run_state c (bool_rules None) state list) ≡ true
run_kept c clauses kept [] state held met = met
run_kept c clauses kept (vector ∷ list) state held met =
    run_kept c clauses kept list (next_state c (bool_rules None) vector state)
    (next_long c (bool_rules None) vector state) (kept_fitted c clauses kept vector state held met)
