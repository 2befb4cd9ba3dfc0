use Rattle.std.proofs.Common.{◌≡◌, ◌≢◌, Bool, List, true, false, refl, sym, subst, rules}
use Rattle.std.specs.Prelude.{◌↔◌, Result, Ok, Err, IfOk, OnOk}
use Rattle.std.specs.Result.{result_and}
use Rattle.ht_app.proofs.Common.{Act, DeskView, Finished, RunError, Step, Tries, step_acts}
use Rattle.ht_app.specs.Generating.{CountsStep}
use Rattle.ht_inputs.specs.declared.run_error.RunError.TheVariants.{NoMemory}
use Rattle.ht_app.proofs.StepLaws.{counts_nothing}
use Rattle.ht_app.proofs.WritingLaws.{runs_out_first, tries_none}
use Rattle.ht_app.proofs.generate.steps.write_made.Goals as goal

-- ---- the end

pub returns-in-Finished-clause-more : goal.returns-in-Finished-clause-more
returns-in-Finished-clause-more g c = (
  λ yes. let no : false ≡ true = yes in cc,
  λ other. absurd
      (other c.in-Finished.is),
)

pub returns-in-Finished-clause-counted : goal.returns-in-Finished-clause-counted
returns-in-Finished-clause-counted g c = counts_nothing c.args.sizes.now c.in-Finished.is

pub returns-in-Finished-clause-tries : goal.returns-in-Finished-clause-tries
returns-in-Finished-clause-tries g c =
    let a = g.D.Desk.view c.args.desk.now in
    subst (λ (step : Step). Tries {A = Bool} (step_acts step) (Ok false) a a) (sym c.in-Finished.is) tries_none

-- ---- a step with a text

pub returns-in_err-text-clause-tries : goal.returns-in_err-text-clause-tries
returns-in_err-text-clause-tries g c =
    let a = g.D.Desk.view c.args.desk.now in
    let tries : Tries {A = Bool} (step_acts c.args.step.now) (Err NoMemory) a a =
    runs_out_first Bool (step_acts c.args.step.now) a in
    search (rules, tries)

more_after : (written : Result (Unit {0}) RunError) (step : Step) → step ≢ Finished
    → IfOk (result_and written (Ok true)) (λ more. more ≡ true ↔ step ≢ Finished)
more_after (Ok done) step other = (λ yes. other, λ is. refl)
more_after (Err error) step other = tt

counted_after : (written : Result (Unit {0}) RunError) (P : Type 0) → OnOk written P
    → OnOk (result_and written (Ok true)) P
counted_after (Ok done) P counted = counted
counted_after (Err error) P counted = tt

tries_after : (written : Result (Unit {0}) RunError) {acts : List Act} {a b : DeskView} → Tries acts written a b
    → Tries acts (result_and written (Ok true)) a b
tries_after (Ok done) tries = record { ends = tries.ends }
tries_after (Err error) tries = record { ends = tries.ends }

pub returns-clause-more : goal.returns-clause-more
returns-clause-more g c =
    subst (λ (r : Result Bool RunError). IfOk r (λ more. more ≡ true ↔ c.args.step.now ≢ Finished))
    (sym c.and.ensures) (more_after c.put_step-written.result c.args.step.now c.in_default.not-Finished)

pub returns-clause-counted : goal.returns-clause-counted
returns-clause-counted g c =
    subst (λ (r : Result Bool RunError). OnOk r
    (CountsStep c.args.step.now c.args.sizes.now c.put_step-written.new.sizes))
    (sym c.and.ensures) (counted_after c.put_step-written.result _ c.put_step-written.ensures.counted)

pub returns-clause-tries : goal.returns-clause-tries
returns-clause-tries g c = subst (λ (r : Result Bool RunError). Tries (step_acts c.args.step.now) r
    (g.D.Desk.view c.args.desk.now) (g.D.Desk.view c.put_step-written.new.desk))
    (sym c.and.ensures) (tries_after c.put_step-written.result c.put_step-written.ensures.tries)
