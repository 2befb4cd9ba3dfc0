-- What a whole refutation that is checked with marks says of one that passes.
use Rattle.std.proofs.Common.{◌≡◌, ◌+◌, ℕ, List, Bool, sym, subst}
use Rattle.std.specs.Prelude.{◌↔◌, IsTrue}
use Rattle.std.specs.List.{All}
use Rattle.ht_tern.specs.declared.tern.Tern.{Tern}
use Rattle.ht_net.specs.declared.fault.Fault.{Fault}
use Rattle.ht_net.specs.Circuit.Netlist.{Netlist, IsCircuit}
use Rattle.ht_net.specs.Detect.Detection.{IsStart}
use Rattle.ht_cubes.specs.declared.rail.Rail.{Rail}
use Rattle.ht_cubes.specs.declared.clause_step.ClauseStep.{ClauseStep}
use Rattle.ht_cubes.specs.Rails.{AvoidsAll, IsCone, IsKnownRail, both}
use Rattle.ht_net.specs.Detect.Undetectable.{IsUndetectable}
use Rattle.ht_cubes.specs.Formula.{formula_of, last_variable}
use Rattle.ht_cubes.specs.declared.signed_var.SignedVar.{SignedVar}
use Rattle.ht_cubes.specs.Values.{IsBelow}
use Rattle.ht_cubes.specs.Steps.{EndsEmpty, IsWithin, StepsPass}
use Rattle.ht_cubes.specs.Passing.{RefutesByCubes}
use Rattle.ht_cubes.proofs.BoundLaws.{formula_below}
use Rattle.ht_cubes.proofs.ConeLaws.{cones_agree}
use Rattle.ht_cubes.proofs.RunLaws.{refuted_undetectable}
use Rattle.ht_cubes.proofs.RefuteLaws.{cubes_refute}

module _ {c : Netlist} {fault : Fault} {start : List Tern} {cubes : List (List Rail)} {steps : List ClauseStep}
    {cone : ℕ → Bool} (is_cone : IsCone c fault cone) (h : RefutesByCubes c fault start cubes steps) where
  -- the cone of a refutation that passes is this one
  pub cone_is : h.cone ≡ cone
  cone_is = cones_agree c fault h.cone cone h.is_cone is_cone

  -- each rail of the cubes is known in this cone
  pub known_here : All (All (IsKnownRail c cone)) cubes
  known_here = let P : (ℕ → Bool) → Type 0 = λ s. All (All (IsKnownRail c s)) cubes in subst P cone_is h.known

  -- the steps are over the variables of the formula of this cone
  pub within_here : All (λ (s : ClauseStep). IsWithin (last_variable c fault cone cubes) s.literals) steps
  within_here =
      let P : (ℕ → Bool) → Type 0 =
      λ t. All (λ (s : ClauseStep). IsWithin (last_variable c fault t cubes) s.literals) steps in
      subst P cone_is h.within

  -- the steps pass after the formula of this cone
  pub passes_here : StepsPass (formula_of c fault cone cubes) steps
  passes_here =
      let P : (ℕ → Bool) → Type 0 = λ s. StepsPass (formula_of c fault s cubes) steps in subst P cone_is h.passes

-- what passes excludes every detection
pub passing_excludes : (c : Netlist) (fault : Fault) (start : List Tern) (cubes : List (List Rail))
    (steps : List ClauseStep) → IsCircuit c → IsStart c start → RefutesByCubes c fault start cubes steps
    → IsUndetectable c fault start
passing_excludes c fault start cubes steps circuit is h =
    refuted_undetectable c fault start cubes circuit is (cubes_refute c circuit fault start cubes steps h)

-- clauses and a last variable that are those of the formula
module _ (c : Netlist) (fault : Fault) (cubes : List (List Rail)) (cone : ℕ → Bool) {clauses : List (List SignedVar)}
    {last : ℕ} (is : clauses ≡ formula_of c fault cone cubes) (top : last ≡ last_variable c fault cone cubes) where
  -- the variables of the formula's clauses are below the number after the last
  pub clauses_below : IsCircuit c → All (All (IsKnownRail c cone)) cubes → All (IsBelow (last + 1)) clauses
  clauses_below circuit known =
      let P : List (List SignedVar) → Type 0 = λ l. All (IsBelow (last + 1)) l in
      let Q : ℕ → Type 0 = λ n. All (IsBelow (n + 1)) (formula_of c fault cone cubes) in
      subst P (sym is) (subst Q (sym top) (formula_below c circuit fault cone cubes known))

  -- where a refutation passes, its steps are over the variables up to the last
  pub within_last : IsCone c fault cone → {start : List Tern} {steps : List ClauseStep}
      → RefutesByCubes c fault start cubes steps → All (λ (s : ClauseStep). IsWithin last s.literals) steps
  within_last is_cone {start} {steps} h =
      let P : ℕ → Type 0 = λ n. All (λ (s : ClauseStep). IsWithin n s.literals) steps in
      subst P (sym top) (within_here is_cone h)

-- what is checked is what passes
pub refutes_exactly : (c : Netlist) (fault : Fault) (start : List Tern) (cubes : List (List Rail))
    (steps : List ClauseStep) {cone : ℕ → Bool} {clauses : List (List SignedVar)} {last : ℕ}
    → clauses ≡ formula_of c fault cone cubes → last ≡ last_variable c fault cone cubes → IsCone c fault cone
    → All (All (IsKnownRail c cone)) cubes → AvoidsAll (both start) cubes → EndsEmpty steps
    → All (λ (s : ClauseStep). IsWithin last s.literals) steps → (passes : Bool)
    → IsTrue passes ↔ StepsPass clauses steps → IsTrue passes ↔ RefutesByCubes c fault start cubes steps
refutes_exactly c fault start cubes steps {cone} is top is_cone known starts ends within passes exact =
    let P : ℕ → Type 0 = λ n. All (λ (s : ClauseStep). IsWithin n s.literals) steps in
    let Q : List (List SignedVar) → Type 0 = λ l. StepsPass l steps in (
      λ so. record {
        cone = cone;
        is_cone = is_cone;
        known = known;
        starts = starts;
        within = subst P top within;
        passes = subst Q is (exact.0 so);
        ends = ends;
      },
      λ h. exact.1 (subst Q (sym is) (passes_here is_cone h)),
    )
