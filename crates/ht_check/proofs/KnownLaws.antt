-- The clauses of a circuit are those of the frames that were taken out for a window.
use Rattle.std.proofs.Common.{◌≡◌, List, sym, subst}
use Rattle.std.specs.List.{All}
use Rattle.std.proofs.lemmas.List.Elements.{All-weaker}
use Rattle.ht_tree.specs.declared.clause.Clause.{Clause}
use Rattle.ht_tree.specs.Clause.Clauses.{IsClause}
use Rattle.ht_records.proofs.MeetLaws.{clause_known}
use Rattle.ht_recompute.specs.KeptFramesOf.{KeptState}
use Rattle.ht_recompute.specs.WrittenClauses.{IsKnownClause}

module _ (taken kept : KeptState) (same : taken ≡ kept) where
  -- a clause of the circuit of kept frames is known in that of the same frames taken out
  pub known_in : (clause : Clause) → IsClause kept.circuit clause → IsKnownClause taken.circuit clause
  known_in clause is =
      subst (λ (k : KeptState). IsKnownClause k.circuit clause) (sym same) (clause_known kept.circuit clause is)

  -- each of a list of clauses of the circuit of kept frames is known in that of the same frames taken out
  pub each_known_in : (clauses : List Clause) → All (IsClause kept.circuit) clauses
      → All (IsKnownClause taken.circuit) clauses
  each_known_in clauses are = All-weaker (IsClause kept.circuit) (IsKnownClause taken.circuit) known_in clauses are
