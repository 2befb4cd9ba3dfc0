-- An entry by cubes that passes has a text, where its lines are short.
use Rattle.std.proofs.Common.{◌≡◌, ◌<◌, ◌≤◌, ℕ, List, [], ◌∷◌, ◌++◌, length, get_or, ap, arith}
use Rattle.std.specs.List.{All}
use Rattle.std.proofs.lemmas.List.Elements.{All-cons, All-nil}
use Rattle.ht_tern.specs.declared.tern.Tern.{Tern}
use Rattle.ht_net.specs.declared.fault.Fault.{Fault}
use Rattle.ht_net.specs.Circuit.Netlist.{IsCircuit, Netlist}
use Rattle.ht_cubes.specs.declared.rail.Rail.{Rail}
use Rattle.ht_cubes.specs.declared.signed_var.SignedVar.{SignedVar}
use Rattle.ht_cubes.specs.declared.clause_step.ClauseStep.{ClauseStep}
use Rattle.ht_cubes.specs.Rails.{JointState, Avoids, Holds, both}
use Rattle.ht_cubes.specs.Steps.{Clash, StepsPass}
use Rattle.ht_cubes.specs.Formula.{formula_of}
use Rattle.ht_cubes.specs.Passing.{RefutesByCubes}
use Rattle.ht_entries.specs.ByCubes.{AreHints, IsByCubesText, IsCubeText, IsStepText}
use Rattle.ht_valid.specs.WritableEntries.{AreShort}

-- a cube that a state avoids has a rail
avoided_some : (s : JointState) (cube : List Rail) → Avoids s cube → 0 < length cube
avoided_some s [] avoids = absurd (avoids (All-nil (Holds s)))
avoided_some s (rail ∷ cube) avoids = omega arith

-- hints that clash are some, and count from 1
record HasHints (hints : List ℕ) : Type 0 where
  some : 0 < length hints
  count : All (λ (n : ℕ). 0 < n) hints

clash_has_hints : (clauses : List (List SignedVar)) (facts : List SignedVar) (hints : List ℕ)
    → Clash clauses facts hints → HasHints hints
clash_has_hints clauses facts [] clash = absurd clash
clash_has_hints clauses facts (n ∷ []) clash = record {
  some = omega arith;
  count = All-cons (λ (m : ℕ). 0 < m) n [] clash.0.0 (All-nil (λ (m : ℕ). 0 < m));
}
clash_has_hints clauses facts (n ∷ m ∷ hints) clash = record {
  some = omega arith;
  count = All-cons (λ (k : ℕ). 0 < k) n (m ∷ hints) clash.0.0
      (clash_has_hints clauses (facts ++ clash.1.0 ∷ []) (m ∷ hints) clash.1.2).count;
}

steps_have_hints : (clauses : List (List SignedVar)) (steps : List ClauseStep) → StepsPass clauses steps
    → All (λ (step : ClauseStep). HasHints step.hints) steps
steps_have_hints clauses [] pass = All-nil (λ (step : ClauseStep). HasHints step.hints)
steps_have_hints clauses (step ∷ steps) pass =
    All-cons (λ (s : ClauseStep). HasHints s.hints) step steps
    (clash_has_hints clauses _ step.hints pass.0.clash)
    (steps_have_hints (clauses ++ step.literals ∷ []) steps pass.1)

some_cube : {A : Type 0} (cubes : List (List Rail)) → 0 < length cubes → cubes ≡ [] → A
some_cube cubes some e = absurd (omega (arith, some, ap length e))

-- an entry by cubes that refutes a fault has a text, if its lines are short
pub cubes_have_text : (c : Netlist) → IsCircuit c → (fault : Fault) (start : List Tern) (cubes : List (List Rail))
    (steps : List ClauseStep) → RefutesByCubes c fault start cubes steps → AreShort cubes steps
    → IsByCubesText (record { cubes = cubes; steps = steps })
cubes_have_text c circuit fault start cubes steps passes short =
    let few = circuit.few_dffs in
    let hints = steps_have_hints (formula_of c fault passes.cone cubes) steps passes.passes in
    record {
      cubes = λ k d inside. record {
        some = avoided_some (both start) (get_or cubes k d) (passes.starts k d inside);
        each = λ i e below. omega (arith, (passes.known k d inside i e below).0, few);
        short = short.short_cubes k d inside;
      };
      steps = λ k d inside. record {
        literals = λ i e below. (
          (passes.within k d inside i e below).0,
          (short.short_steps k d inside).variables i e below,
        );
        hints = record {
          each = λ i e below. ((hints k d inside).count i e below, (short.short_steps k d inside).hints i e below);
          some = (hints k d inside).some;
        };
        short = (short.short_steps k d inside).short;
      };
      begun = λ e. some_cube cubes short.some e;
    }
