-- Steps that pass are true where the clauses before them are.
use Rattle.std.proofs.Common.{◌≡◌, ◌-◌, ℕ, List, [], ◌∷◌, ◌++◌, length, map, Bool, true, sym, ◌∙◌, ap, arith, inl, inr, ◌⊎◌}
use Rattle.std.specs.List.{Contains, All, list_any}
use Rattle.std.proofs.lemmas.List.Elements.{All-contains, All-nil, All-cons, All-push, Contains-push_cases}
use Rattle.std.proofs.lemmas.Bool.{both_ways, cases_Bool, false≢true, not_from_false}
use Rattle.ht_cubes.specs.declared.signed_var.SignedVar.{SignedVar}
use Rattle.ht_cubes.specs.declared.clause_step.ClauseStep.{ClauseStep}
use Rattle.ht_cubes.specs.Formula.{complement}
use Rattle.ht_cubes.specs.Steps.{IsFalse, Leaves, Fails, IsNumber, Clash, StepPasses, StepsPass, EndsEmpty, clause_at, no_step}
use Rattle.ht_cubes.proofs.MeaningLaws.{truth_of, IsTrueClause, AreTrueClauses, any_found, any_from, mapped_from, complement_truth, complement_fails}

module _ (values : ℕ → Bool) where
  -- all facts are true
  abbrev AreFacts : List SignedVar → Type 0
  AreFacts facts = (l : SignedVar) → Contains facts l → truth_of values l ≡ true

  no_fail : (facts clause : List SignedVar) → AreFacts facts → IsTrueClause values clause → Fails facts clause → ⊥
  no_fail facts clause are h fails =
      let (x, inside, is) = any_found (truth_of values) clause h in
      complement_fails values x (are (complement x) (All-contains (IsFalse facts) clause x fails inside)) is

  left_true : (facts clause : List SignedVar) (l : SignedVar) → AreFacts facts → IsTrueClause values clause
      → Leaves facts clause l → truth_of values l ≡ true
  left_true facts clause l are h leaves =
      let (x, inside, is) = any_found (truth_of values) clause h in
      elim (All-contains (λ other. (other ≡ l) ⊎ IsFalse facts other) clause x leaves.others inside) [
        | inl same ↦ ap (truth_of values) (sym same) ∙ is
        | inr false_one ↦ absurd (complement_fails values x (are (complement x) false_one) is)
      ]

  module _ (clauses : List (List SignedVar)) (given : AreTrueClauses values clauses) where
    true_at : (n : ℕ) → IsNumber clauses n → IsTrueClause values (clause_at clauses n)
    true_at n known = given (n - 1) [] (omega (arith, known.0, known.1))

    more_facts : (facts : List SignedVar) (l : SignedVar) → AreFacts facts → truth_of values l ≡ true
        → AreFacts (facts ++ l ∷ [])
    more_facts facts l are is k has = elim (Contains-push_cases facts l k has) [
      | inl old ↦ are k old
      | inr same ↦ ap (truth_of values) (sym same) ∙ is
    ]

    no_clash : (facts : List SignedVar) (hints : List ℕ) → AreFacts facts → Clash clauses facts hints → ⊥
    no_clash facts [] are h = h
    no_clash facts (n ∷ []) are h = no_fail facts (clause_at clauses n) are (true_at n h.0) h.1
    no_clash facts (n ∷ m ∷ hints) are h =
        let l = h.1.0 in
        no_clash (facts ++ l ∷ []) (m ∷ hints)
        (more_facts facts l are (left_true facts (clause_at clauses n) l are (true_at n h.0) h.1.1)) h.1.2

    -- a step that passes after true clauses is a true clause
    pub step_true : (step : ClauseStep) → StepPasses clauses step → IsTrueClause values step.literals
    step_true step passes =
        elim (cases_Bool (list_any (truth_of values) step.literals)) [
          | inl holds ↦ holds
          | inr wrong ↦ absurd (no_clash (map complement step.literals) step.hints
              (λ l has. let (m, inside, is) = mapped_from complement step.literals l has in
              elim (cases_Bool (truth_of values m)) [
                | inl holds ↦ absurd (both_ways (list_any (truth_of values) step.literals) wrong
                    (any_from (truth_of values) step.literals m inside holds))
                | inr other ↦ ap (truth_of values) (sym is)
                    ∙ (complement_truth values m ∙ not_from_false (truth_of values m) other)
              ])
              passes.clash)
        ]

  -- steps that pass after true clauses are true clauses
  pub steps_true : (clauses : List (List SignedVar)) (steps : List ClauseStep) → AreTrueClauses values clauses
      → StepsPass clauses steps → All (λ (s : ClauseStep). IsTrueClause values s.literals) steps
  steps_true clauses [] given passes = All-nil (λ (s : ClauseStep). IsTrueClause values s.literals)
  steps_true clauses (step ∷ more) given passes =
      let here = step_true clauses given step passes.0 in
      All-cons (λ (s : ClauseStep). IsTrueClause values s.literals) step more here
      (steps_true (clauses ++ step.literals ∷ []) more
      (All-push (IsTrueClause values) clauses step.literals given here) passes.1)

  -- clauses after which steps pass that end empty aren't all true
  pub refuted_by_steps : (clauses : List (List SignedVar)) (steps : List ClauseStep) → AreTrueClauses values clauses
      → StepsPass clauses steps → EndsEmpty steps → ⊥
  refuted_by_steps clauses steps given passes ends =
      let last = steps_true clauses steps given passes (length steps - 1) no_step (omega (arith, ends.0)) in
      false≢true (sym (ap (list_any (truth_of values)) ends.1) ∙ last)
