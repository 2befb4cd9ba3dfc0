-- The flip-flops of clauses are the circuit's.
use Rattle.std.proofs.Common.{◌≡◌, ◌<◌, List, [], ◌∷◌, true, length}
use Rattle.std.specs.List.{All}
use Rattle.std.proofs.lemmas.Bool.{and_parts, ltb-true}
use Rattle.std.proofs.lemmas.List.Elements.{All-nil, All-cons, All-map}
use Rattle.ht_net.specs.Circuit.Netlist.{Netlist}
use Rattle.ht_tree.specs.declared.clause.Literal.{Literal}
use Rattle.ht_tree.specs.declared.clause.Clause.{Clause}
use Rattle.ht_tree.specs.Clause.Clauses.{AreKnown, AreKnownClauses, literals_of, literals_of_each}
use Rattle.ht_invariant.specs.Trials.{knows, knows_each}

module _ (c : Netlist) where
  -- literals that pass the test for a circuit speak of its flip-flops only
  pub known_all : (literals : List Literal) → knows c literals ≡ true → AreKnown c literals
  known_all [] h = All-nil (λ (l : Literal). l.dff < length c.dffs)
  known_all (l ∷ literals) h =
      let p = and_parts _ (knows c literals) h in
      All-cons (λ (l : Literal). l.dff < length c.dffs) l literals (ltb-true _ _ p.0) (known_all literals p.1)

  each_all : (clauses : List Clause) → knows_each c clauses ≡ true
      → All (λ (clause : Clause). AreKnown c (literals_of clause)) clauses
  each_all [] h = All-nil (λ (clause : Clause). AreKnown c (literals_of clause))
  each_all (k ∷ clauses) h =
      let p = and_parts (knows c (literals_of k)) (knows_each c clauses) h in
      All-cons (λ (clause : Clause). AreKnown c (literals_of clause)) k clauses (known_all (literals_of k) p.0)
      (each_all clauses p.1)

  -- clauses that pass the test for a circuit speak of its flip-flops only
  pub known_each : (clauses : List Clause) → knows_each c clauses ≡ true → AreKnownClauses c (literals_of_each clauses)
  known_each clauses h = All-map (AreKnown c) literals_of clauses (each_all clauses h)
