-- A refutation from a state has a text.
use Rattle.std.proofs.Common.{◌≡◌, ◌<◌, ℕ, List, [], ◌∷◌, Bool, length, get_or, Option, Some, None, refl, ap, arith}
use Rattle.std.specs.List.{All}
use Rattle.std.proofs.lemmas.List.Elements.{All-head}
use Rattle.ht_net.specs.declared.fault.Fault.{Fault}
use Rattle.ht_net.specs.Circuit.Netlist.{IsCircuit, Netlist}
use Rattle.ht_tree.specs.declared.clause.Clause.{Clause}
use Rattle.ht_tree.specs.declared.clause.Literal.{Literal}
use Rattle.ht_tree.specs.declared.token.Token.{Token}
use Rattle.ht_tree.specs.Walk.Walks.{root_stack}
use Rattle.ht_tree.specs.Window.Windows.{one_frame_window}
use Rattle.ht_tree.specs.Clause.Clauses.{IsClause, IsSecond, literals_of, literals_of_each}
use Rattle.ht_tree.specs.Clause.ClauseWindows.{closing_window, good_window, judge_under, window_under}
use Rattle.ht_tree.specs.Clause.Invariants.{IsClosedUnder}
use Rattle.ht_tree.specs.Record.RefutationsFrom.{RefutesFrom}
use Rattle.ht_entries.specs.FromState.{IsClauseText, IsFromStateText, IsSecondText}
use Rattle.ht_valid.proofs.TokenTextLaws.{set_text, walk_text_by}

module _ (c : Netlist) (circuit : IsCircuit c) where
  second_text : (first : Literal) (second : Option Literal) → IsSecond c first.dff second → IsSecondText first second
  second_text first None is = tt
  second_text first (Some l) is =
      let inside = is.1 in
      let few = circuit.few_dffs in
      (is.0, omega (arith, inside, few))

  clause_text : (clauses : List Clause) (clause : Clause) → IsClause c clause → IsClosedUnder c clauses clause
      → IsClauseText clause
  clause_text clauses clause is closed =
      let inside = is.first in
      let few = circuit.few_dffs in
      record {
        first = omega (arith, inside, few);
        second = second_text clause.first clause.second is.second;
        tokens = walk_text_by (good_window c) (record { circuit = circuit; start = refl }) (omega arith)
            (judge_under (closing_window c (literals_of_each clauses) (literals_of clause))).status root_stack
            clause.tokens closed.fit;
      }

  -- a clause has a flip-flop
  some_dff : (clauses : List Clause) → 0 < length clauses → All (IsClause c) clauses → 0 < length c.dffs
  some_dff [] some are = absurd (omega (arith, some))
  some_dff (clause ∷ clauses) some are =
      let inside = (All-head (IsClause c) clause clauses are).first in
      omega (arith, inside)

  -- an entry that refutes a fault from a state has a text
  pub from_state_has_text : (fault : Fault) (state : List Bool) (clauses : List Clause) (z : List ℕ)
      (tokens : List Token) → RefutesFrom c fault state clauses z tokens
      → IsFromStateText (record { state = state; clauses = clauses; z = z; walk = Some tokens })
  from_state_has_text fault state clauses z tokens refutes =
      let is = refutes.invariant in
      let held : length state ≡ length c.dffs = is.held in
      let some = some_dff clauses is.some is.known in
      let few = circuit.few_dffs in
      record {
        state = (omega (arith, held, some), omega (arith, held, few));
        each = λ k d inside.
            clause_text clauses (get_or clauses k d) (is.known k d inside) (is.closed k d inside);
        few = is.few;
        z = set_text c circuit z refutes.rises refutes.known;
        walk = walk_text_by (one_frame_window c fault z) (record { circuit = circuit; start = refl }) (omega arith)
            (judge_under (window_under c fault z (literals_of_each clauses))).status root_stack tokens
            refutes.complete.fit;
        begun = λ none.
            let no = ap length none in
            let clause = is.some in
            absurd (omega (arith, no, clause));
      }
