-- Where a path leaves a state, it breaks no clause that the state meets.
use Rattle.std.proofs.Common.{◌≡◌, ◌<◌, ℕ, List, [], ◌∷◌, Bool, true, false, not, Option, Some, None, length, get_or, refl, sym, ◌∙◌, ap, inl, inr}
use Rattle.std.specs.List.{All, list_any, list_all}
use Rattle.std.proofs.lemmas.Bool.{and_parts, both_ways, not-true, or_cases, or_from, or_left, or_right}
use Rattle.std.proofs.lemmas.List.Elements.{All-cons, All-head, All-map, All-nil, All-tail, All-weaker}
use Rattle.ht_tern.specs.declared.tern.Tern.{Tern}
use Rattle.ht_tern.specs.Gate.{tern_of}
use Rattle.ht_pairs.specs.Pairs.{IsMember}
use Rattle.ht_pairs.specs.Decided.{values_left}
use Rattle.ht_net.specs.Circuit.Netlist.{Netlist}
use Rattle.ht_tree.specs.declared.token.Assign3.{Assign3}
use Rattle.ht_tree.specs.declared.clause.Literal.{Literal}
use Rattle.ht_tree.specs.declared.clause.Clause.{Clause}
use Rattle.ht_tree.specs.Clause.Clauses.{AreKnown, AreKnownClauses, IsClause, IsSecond, meets_literal, is_bit, is_decided_against, is_decided_to, latch_value, literals_of, literals_of_each, meets, meets_each, path_breaks, path_meets, second_of}

decided_bit : (bit b : Bool) → is_decided_to bit (Some (tern_of b)) ≡ is_bit bit b
decided_bit true true = refl
decided_bit true false = refl
decided_bit false true = refl
decided_bit false false = refl

-- a value that is left to a bit, and was decided against a literal, is no bit of that literal
left_against : (bit b : Bool) (v : Option Tern) → IsMember (tern_of b) (values_left v) → is_decided_against bit v ≡ true
    → is_bit bit b ≡ false
left_against bit b None m h = cc
left_against bit b (Some v) (inl e) h =
    sym (decided_bit bit b) ∙ (ap (λ (v : Tern). is_decided_to bit (Some v)) e
    ∙ not-true (is_decided_to bit (Some v)) h)
left_against bit b (Some v) (inr m) h = absurd m

-- a literal of the circuit's flip-flops
abbrev pub IsLiteralOf : Netlist → Literal → Type 0
IsLiteralOf c literal = literal.dff < length c.dffs

-- a path leaves a state: the latches may have its bits
abbrev pub Leaves : Netlist → List Assign3 → List Bool → Type 0
Leaves c path state = (literal : Literal) → IsLiteralOf c literal
    → IsMember (tern_of (get_or state literal.dff false)) (values_left (latch_value c path literal))

module _ (c : Netlist) (path : List Assign3) (state : List Bool) (leaves : Leaves c path state) where
  broken_unmet : (literals : List Literal) → AreKnown c literals → path_breaks c path literals ≡ true
      → meets state literals ≡ false
  broken_unmet [] known h = refl
  broken_unmet (l ∷ literals) known h =
      let parts = and_parts (is_decided_against l.value (latch_value c path l)) (path_breaks c path literals) h in
      or_from (meets_literal state l) (meets state literals)
      (left_against l.value (get_or state l.dff false) (latch_value c path l)
      (leaves l (All-head (IsLiteralOf c) l literals known)) parts.0)
      (broken_unmet literals (All-tail (IsLiteralOf c) l literals known) parts.1)

  -- a path that leaves a state which meets every clause breaks none of them
  pub none_broken : (clauses : List (List Literal)) → AreKnownClauses c clauses → meets_each clauses state ≡ true
      → list_any (path_breaks c path) clauses ≡ true → ⊥
  none_broken [] known met h = cc
  none_broken (k ∷ clauses) known met h =
      let parts = and_parts (meets state k) (meets_each clauses state) met in
      elim (or_cases (path_breaks c path k) (list_any (path_breaks c path) clauses) h) [
        | inl e ↦ both_ways (meets state k) (broken_unmet k (All-head (AreKnown c) k clauses known) e) parts.0
        | inr e ↦ none_broken clauses (All-tail (AreKnown c) k clauses known) parts.1 e
      ]

-- a state has the bits that a path decided for the literals' latches
abbrev pub Follows : Netlist → List Assign3 → List Bool → Type 0
Follows c path state = (literal : Literal) → IsLiteralOf c literal → (b : Bool)
    → is_decided_to b (latch_value c path literal) ≡ true → get_or state literal.dff false ≡ b

is_itself : (bit b : Bool) → b ≡ bit → is_bit bit b ≡ true
is_itself true b e = e
is_itself false b e = ap not e

module _ (c : Netlist) (path : List Assign3) (state : List Bool) (follows : Follows c path state) where
  met_literal : (literals : List Literal) → AreKnown c literals → path_meets c path literals ≡ true
      → meets state literals ≡ true
  met_literal [] known h = cc
  met_literal (l ∷ literals) known h =
      elim (or_cases (is_decided_to l.value (latch_value c path l)) (path_meets c path literals) h) [
        | inl e ↦ or_left (meets_literal state l) (meets state literals)
            (is_itself l.value (get_or state l.dff false) (follows l (All-head (IsLiteralOf c) l literals known) l.value e))
        | inr e ↦ or_right (meets_literal state l) (meets state literals)
            (met_literal literals (All-tail (IsLiteralOf c) l literals known) e)
      ]

  -- where a path meets every clause, a state that follows it does too
  pub each_met : (clauses : List (List Literal)) → AreKnownClauses c clauses
      → list_all (path_meets c path) clauses ≡ true → meets_each clauses state ≡ true
  each_met [] known h = refl
  each_met (k ∷ clauses) known h =
      let parts = and_parts (path_meets c path k) (list_all (path_meets c path) clauses) h in
      let here = met_literal k (All-head (AreKnown c) k clauses known) parts.0 in
      let rest = each_met clauses (All-tail (AreKnown c) k clauses known) parts.1 in
      rw (here, rest) refl

-- the literals of a clause of the circuit are the circuit's
second_known : (c : Netlist) (first : ℕ) (second : Option Literal) → IsSecond c first second
    → AreKnown c (second_of second)
second_known c first None h = All-nil (IsLiteralOf c)
second_known c first (Some l) h = All-cons (IsLiteralOf c) l [] h.1 (All-nil (IsLiteralOf c))

-- the literals of a circuit's clause are of its flip-flops
pub clause_known : (c : Netlist) (clause : Clause) → IsClause c clause → AreKnown c (literals_of clause)
clause_known c clause is =
    All-cons (IsLiteralOf c) clause.first (second_of clause.second) is.first
    (second_known c clause.first.dff clause.second is.second)

-- the literals of each of a circuit's clauses are of its flip-flops
pub clauses_known : (c : Netlist) (clauses : List Clause) → All (IsClause c) clauses
    → AreKnownClauses c (literals_of_each clauses)
clauses_known c clauses are =
    All-map (AreKnown c) literals_of clauses
    (All-weaker (IsClause c) (λ clause. AreKnown c (literals_of clause)) (clause_known c) clauses are)
