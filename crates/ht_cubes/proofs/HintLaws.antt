-- Hints, one after the other, and steps.
use Rattle.std.proofs.Common.{◌≡◌, ◌<◌, ◌≤◌, ◌+◌, ◌-◌, ℕ, List, [], ◌∷◌, ◌++◌, length, get_or, set, drop, map, Option, Some, None, Bool, false, sym, ◌∙◌, ap, subst, arith, eqb}
use Rattle.std.specs.Prelude.{◌↔◌, IsTrue}
use Rattle.std.specs.List.{All}
use Rattle.std.proofs.lemmas.Bool.{both_ways, eqb-true, eq-eqb}
use Rattle.std.proofs.lemmas.List.{drop_all, length-drop, get_or_read}
use Rattle.std.proofs.lemmas.List.Elements.{All-contains, All-push, All-weaker}
use Rattle.ht_cubes.specs.declared.signed_var.SignedVar.{SignedVar}
use Rattle.ht_cubes.specs.declared.clause_step.ClauseStep.{ClauseStep}
use Rattle.ht_cubes.specs.Formula.{complement}
use Rattle.ht_cubes.specs.Steps.{IsNumber, Clash, HasNoOpposites, StepPasses, StepsPass, IsWithin, clause_at, no_step}
use Rattle.ht_cubes.specs.Values.{SayFacts, StandsSo, IsOpen, IsBelow}
use Rattle.ht_cubes.proofs.ListLaws.{drop_next}
use Rattle.ht_cubes.proofs.ClashLaws.{facts_more, leaves_to, fails_to, clash_left, clash_open, clash_failed, clash_known}

module _ (clauses : List (List SignedVar)) (facts now : List SignedVar) (hints : List ℕ) (i : ℕ)
    (values : List (Option Bool)) (said : SayFacts now values)
    (so_far : Clash clauses facts hints ↔ Clash clauses now (drop i hints)) (inside : i < length hints) where
  at_hint : Clash clauses facts hints → Clash clauses now (get_or hints i 0 ∷ drop (i + 1) hints)
  at_hint h = let P : List ℕ → Type 0 = λ l. Clash clauses now l in subst P (drop_next hints i 0 inside) (so_far.0 h)

  from_hint : Clash clauses now (get_or hints i 0 ∷ drop (i + 1) hints) → Clash clauses facts hints
  from_hint h =
      so_far.1 (let P : List ℕ → Type 0 = λ l. Clash clauses now l in subst P (sym (drop_next hints i 0 inside)) h)

  -- where the hints clash, the next one is the number of a clause
  pub hint_known : Clash clauses facts hints → IsNumber clauses (get_or hints i 0)
  hint_known h = clash_known now values said clauses (get_or hints i 0) (drop (i + 1) hints) (at_hint h)

  -- where the clause of the next hint is open, the hints don't clash
  pub hint_open : IsOpen values (clause_at clauses (get_or hints i 0)) → Clash clauses facts hints → ⊥
  hint_open free h = clash_open now values said clauses (get_or hints i 0) (drop (i + 1) hints) free (at_hint h)

  -- where the clause of the next hint leaves one, the hints clash just where those after it do with that one true
  pub hint_left : (l : SignedVar) → IsNumber clauses (get_or hints i 0)
      → StandsSo values (clause_at clauses (get_or hints i 0)) (Some l)
      → Clash clauses facts hints ↔ Clash clauses (now ++ l ∷ []) (drop (i + 1) hints)
  hint_left l known so =
      let on = clash_left now values said clauses (get_or hints i 0) (drop (i + 1) hints) l known
      (leaves_to now values said (clause_at clauses (get_or hints i 0)) l so) in
      ((λ h. on.0 (at_hint h)), (λ h. from_hint (on.1 h)))

  -- where the clause of the next hint fails, the hints clash just where it is the last
  pub hint_failed : IsNumber clauses (get_or hints i 0)
      → StandsSo values (clause_at clauses (get_or hints i 0)) None
      → Clash clauses facts hints ↔ (i + 1 ≡ length hints)
  hint_failed known so =
      let on = clash_failed now values said clauses (get_or hints i 0) (drop (i + 1) hints) known
      (fails_to now values said (clause_at clauses (get_or hints i 0)) so) in
      ((λ h. last (on.0 (at_hint h))), (λ e. from_hint (on.1 (drop_all (i + 1) hints (omega arith)))))
    where
      last : drop (i + 1) hints ≡ [] → i + 1 ≡ length hints
      last e = omega (arith, length-drop (i + 1) hints, ap (λ (l : List ℕ). length l) e)

-- no hint is left
pub hints_end : (clauses : List (List SignedVar)) (facts now : List SignedVar) (hints : List ℕ) (i : ℕ)
    → Clash clauses facts hints ↔ Clash clauses now (drop i hints) → length hints ≤ i → Clash clauses facts hints → ⊥
hints_end clauses facts now hints i so_far past h =
    let P : List ℕ → Type 0 = λ l. Clash clauses now l in subst P (drop_all i hints past) (so_far.0 h)

-- ---- the clause of a hint, where it is a row and the values are a slice

module _ (clauses : List (List SignedVar)) (n count : ℕ) (row : List SignedVar) (old values : List (Option Bool))
    (below : All (IsBelow count) clauses) (long : length old ≡ count) (known : IsNumber clauses n)
    (is : row ≡ clause_at clauses n) (same : values ≡ old) where
  -- the variables of a hint's clause have an index in the values
  pub row_below : IsBelow (length values) row
  row_below =
      let P : List SignedVar → Type 0 = λ r. IsBelow (length values) r in
      let Q : ℕ → Type 0 = λ m. IsBelow m (clause_at clauses n) in
      let e : count ≡ length values = sym long ∙ ap (λ (l : List (Option Bool)). length l) (sym same) in
      subst P (sym is) (subst Q e (below (n - 1) [] (omega (arith, known.0, known.1))))

  -- the one that a hint's clause leaves has an index in the values
  pub left_below : (l : SignedVar) → StandsSo values row (Some l) → l.variable < length old
  unfolding StandsSo
  left_below l so =
      let low : l.variable < length values =
      All-contains (λ (m : SignedVar). m.variable < length values) row l row_below so.0 in
      let e = ap (λ (v : List (Option Bool)). length v) same in omega (arith, low, e)

  -- the clause of a hint stands as the row that is read
  pub row_stands : (left : Option SignedVar) → StandsSo values row left → StandsSo old (clause_at clauses n) left
  row_stands left so =
      let P : List (Option Bool) → Type 0 = λ v. StandsSo v row left in
      let Q : List SignedVar → Type 0 = λ r. StandsSo old r left in
      subst Q is (subst P same so)

  -- the clause of a hint is open where the row that is read is
  pub row_open : IsOpen values row → IsOpen old (clause_at clauses n)
  row_open so =
      let P : List (Option Bool) → Type 0 = λ v. IsOpen v row in
      let Q : List SignedVar → Type 0 = λ r. IsOpen old r in
      subst Q is (subst P same so)

left_free : (values : List (Option Bool)) (clause : List SignedVar) (l : SignedVar) → StandsSo values clause (Some l)
    → get_or values l.variable None ≡ None
unfolding StandsSo
left_free values clause l so = so.1

-- a hint whose clause leaves one, where that one is made true
pub hint_next : (clauses : List (List SignedVar)) (facts now : List SignedVar) (hints : List ℕ) (i : ℕ)
    (old new : List (Option Bool)) (l : SignedVar) → SayFacts now old
    → Clash clauses facts hints ↔ Clash clauses now (drop i hints) → i < length hints
    → IsNumber clauses (get_or hints i 0) → StandsSo old (clause_at clauses (get_or hints i 0)) (Some l)
    → l.variable < length old → new ≡ set old l.variable (Some l.value)
    → SayFacts (now ++ l ∷ []) new × (Clash clauses facts hints ↔ Clash clauses (now ++ l ∷ []) (drop (i + 1) hints))
hint_next clauses facts now hints i old new l say so_far inside known so low is =
    let P : List (Option Bool) → Type 0 = λ v. SayFacts (now ++ l ∷ []) v in (
      subst P (sym is) (facts_more now old l say low (left_free old (clause_at clauses (get_or hints i 0)) l so)),
      hint_left clauses facts now hints i old say so_far inside l known so,
    )

-- a hint whose clause fails, where the code compares
pub hint_last : (clauses : List (List SignedVar)) (facts now : List SignedVar) (hints : List ℕ) (i count : ℕ)
    (old : List (Option Bool)) → SayFacts now old → Clash clauses facts hints ↔ Clash clauses now (drop i hints)
    → i < length hints → IsNumber clauses (get_or hints i 0) → StandsSo old (clause_at clauses (get_or hints i 0)) None
    → count ≡ length hints → IsTrue (eqb (i + 1) count) ↔ Clash clauses facts hints
hint_last clauses facts now hints i count old say so_far inside known so is =
    let on = hint_failed clauses facts now hints i old say so_far inside known so in
    ((λ yes. on.1 (eqb-true (i + 1) count yes ∙ is)), (λ h. eq-eqb (i + 1) count (on.0 h ∙ sym is)))

-- ---- steps

module _ (first clauses more : List (List SignedVar)) (steps : List ClauseStep) (i : ℕ)
    (so_far : StepsPass first steps ↔ StepsPass clauses (drop i steps)) (inside : i < length steps) where
  at_step : StepsPass first steps → StepsPass clauses (get_or steps i no_step ∷ drop (i + 1) steps)
  at_step h = let P : List ClauseStep → Type 0 = λ l. StepsPass clauses l in
      subst P (drop_next steps i no_step inside) (so_far.0 h)

  from_step : StepsPass clauses (get_or steps i no_step ∷ drop (i + 1) steps) → StepsPass first steps
  from_step h = so_far.1 (let P : List ClauseStep → Type 0 = λ l. StepsPass clauses l in
      subst P (sym (drop_next steps i no_step inside)) h)

  -- where all steps pass, the next one passes
  pub step_needed : StepsPass first steps → StepPasses clauses (get_or steps i no_step)
  step_needed h = (at_step h).0

  -- where the next step passes, all steps pass just where those after it do, after one more clause
  pub steps_on : StepPasses clauses (get_or steps i no_step)
      → more ≡ clauses ++ (get_or steps i no_step).literals ∷ []
      → StepsPass first steps ↔ StepsPass more (drop (i + 1) steps)
  steps_on here is =
      let P : List (List SignedVar) → Type 0 = λ l. StepsPass l (drop (i + 1) steps) in
      ((λ h. subst P (sym is) (at_step h).1), (λ h. from_step (here, subst P is h)))

-- where no step is left, all steps pass
pub steps_end : (first clauses : List (List SignedVar)) (steps : List ClauseStep) (i : ℕ)
    → StepsPass first steps ↔ StepsPass clauses (drop i steps) → length steps ≤ i → StepsPass first steps
steps_end first clauses steps i so_far past =
    so_far.1 (let P : List ClauseStep → Type 0 = λ l. StepsPass clauses l in subst P (sym (drop_all i steps past)) tt)

-- what is within is below the next number
pub within_below : (last : ℕ) (clause : List SignedVar) → IsWithin last clause → IsBelow (last + 1) clause
within_below last clause h = All-weaker (λ (l : SignedVar). (0 < l.variable) × (l.variable ≤ last))
    (λ (l : SignedVar). l.variable < last + 1) (λ l is. omega (arith, is.1)) clause h

-- a step that is tried: where it has no opposites, by its hints
pub step_tried : (clauses : List (List SignedVar)) (step : ClauseStep) (literals : List SignedVar) (hints : List ℕ)
    (values : List (Option Bool)) (passes : Bool) → literals ≡ step.literals → hints ≡ step.hints
    → HasNoOpposites literals → SayFacts (map complement literals) values
    → ((facts : List SignedVar) → SayFacts facts values → IsTrue passes ↔ Clash clauses facts hints)
    → IsTrue passes ↔ StepPasses clauses step
step_tried clauses step literals hints values passes is same plain say exact =
    let on = exact (map complement literals) say in
    let P : List SignedVar → Type 0 = λ l. HasNoOpposites l in
    let Q : List SignedVar → Type 0 = λ l. Clash clauses (map complement l) step.hints in
    let R : List ℕ → Type 0 = λ l. Clash clauses (map complement literals) l in (
      λ so. record { plain = subst P is plain; clash = subst Q is (subst R same (on.0 so)) },
      λ h. on.1 (subst R (sym same) (subst Q (sym is) h.clash)),
    )

-- and where it has opposites
pub step_denied : (clauses : List (List SignedVar)) (step : ClauseStep) (literals : List SignedVar) (plain : Bool)
    → literals ≡ step.literals → IsTrue plain ↔ HasNoOpposites literals → plain ≡ false
    → IsTrue plain ↔ StepPasses clauses step
step_denied clauses step literals plain is exact wrong =
    let P : List SignedVar → Type 0 = λ l. HasNoOpposites l in (
      λ so. absurd (both_ways plain wrong so),
      λ h. exact.1 (subst P (sym is) h.plain),
    )

-- a step of a list that is read at an index
module _ (first clauses more : List (List SignedVar)) (steps : List ClauseStep) (i last : ℕ) (step : ClauseStep)
    (literals : List SignedVar) (inside : i < length steps) (read : step ≡ get_or steps i step)
    (is : literals ≡ step.literals) (so_far : StepsPass first steps ↔ StepsPass clauses (drop i steps)) where
  step_at : step ≡ get_or steps i no_step
  step_at = get_or_read steps i step inside read no_step

  -- where all steps pass, the one that is read passes
  pub step_wanted : StepsPass first steps → StepPasses clauses step
  step_wanted h = let P : ClauseStep → Type 0 = λ s. StepPasses clauses s in
      subst P (sym step_at) (step_needed first clauses more steps i so_far inside h)

  -- where the step that is read passes, all steps pass just where those after it do, after one more clause
  pub steps_more : StepPasses clauses step → more ≡ clauses ++ literals ∷ []
      → StepsPass first steps ↔ StepsPass more (drop (i + 1) steps)
  steps_more here pushed =
      let P : ClauseStep → Type 0 = λ s. StepPasses clauses s in
      steps_on first clauses more steps i so_far inside (subst P step_at here)
      (pushed ∙ ap (λ (l : List SignedVar). clauses ++ l ∷ []) (is ∙ ap (λ (s : ClauseStep). s.literals) step_at))

  -- the variables of the step that is read are below the number after the last
  pub step_below : All (λ (s : ClauseStep). IsWithin last s.literals) steps → IsBelow (last + 1) step.literals
  step_below within =
      let P : ClauseStep → Type 0 = λ s. IsWithin last s.literals in
      within_below last step.literals (subst P (sym step_at) (within i no_step inside))

  -- the variables of the clauses, with those of the step that is read, are below the number after the last
  pub rows_below : All (λ (s : ClauseStep). IsWithin last s.literals) steps → All (IsBelow (last + 1)) clauses
      → more ≡ clauses ++ literals ∷ [] → All (IsBelow (last + 1)) more
  rows_below within below pushed =
      let P : List (List SignedVar) → Type 0 = λ l. All (IsBelow (last + 1)) l in
      let Q : List SignedVar → Type 0 = λ l. IsBelow (last + 1) l in
      subst P (sym pushed) (All-push (IsBelow (last + 1)) clauses literals below (subst Q (sym is) (step_below within)))
