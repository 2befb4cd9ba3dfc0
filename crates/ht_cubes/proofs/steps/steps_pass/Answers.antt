use Rattle.std.proofs.Common.{◌+◌, [], ℕ, Option, None, Bool, length, refl, sym, ◌∙◌, ap, subst}
use Rattle.std.specs.List.{All}
use Rattle.std.proofs.lemmas.Bool.{both_ways, false≢true}
use Rattle.std.proofs.lemmas.List.{length-replicate}
use Rattle.ht_trail.specs.Trails.{CellsState}
use Rattle.ht_cubes.specs.Values.{IsBelow, SayFacts}
use Rattle.ht_cubes.proofs.ClashLaws.{none_said}
use Rattle.ht_cubes.proofs.HintLaws.{step_wanted, steps_more, step_below, rows_below, steps_end}
use Rattle.ht_cubes.proofs.steps.steps_pass.Goals as goal

pub steps-init : goal.steps-init
steps-init c =
    let P : CellsState (Option Bool) → Type 0 = λ v. SayFacts [] v.values in
    record {
      long = ap (λ (v : CellsState (Option Bool)). length v.values) c.in_ok-values.ensures
          ∙ length-replicate (c.args.last + 1) None;
      clear = subst P (sym c.in_ok-values.ensures) (none_said (c.args.last + 1));
      below = c.requires.rows;
      passed = ((λ h. h), (λ h. h));
    }

pub step_passes-requires-clause-rows : goal.step_passes-requires-clause-rows
step_passes-requires-clause-rows c =
    let P : ℕ → Type 0 = λ n. All (IsBelow n) c.steps.rows in subst P (sym c.steps.invariant.long) c.steps.invariant.below

pub step_passes-requires-clause-step : goal.step_passes-requires-clause-step
step_passes-requires-clause-step c =
    let P : ℕ → Type 0 = λ n. IsBelow n c.step-item.result.literals in
    subst P (sym c.steps.invariant.long)
    (step_below c.args.rows.now c.steps.rows [] c.args.steps.now c.steps.step-index c.args.last c.step-item.result
    c.step-item.result.literals c.steps-test.true c.step-item.is refl c.steps.invariant.passed c.requires.steps)

pub returns-then-not-branch : goal.returns-then-not-branch
returns-then-not-branch c = (
  (λ wrong. absurd (false≢true wrong)),
  (λ h. absurd
      (both_ways _ c.if-not-branch.true (c.in_ok-step_passes.ensures.exact.1
      (step_wanted c.args.rows.now c.steps.rows [] c.args.steps.now c.steps.step-index c.args.last c.step-item.result
      c.step-item.result.literals c.steps-test.true c.step-item.is refl c.steps.invariant.passed h)))),
)

pub steps-preserved : goal.steps-preserved
steps-preserved c =
    let P : CellsState (Option Bool) → Type 0 = λ v. SayFacts [] v.values in
    let kept = c.in_ok-step_passes.ensures.kept in
    record {
      long = ap (λ (v : CellsState (Option Bool)). length v.values) kept ∙ c.steps.invariant.long;
      clear = subst P (sym kept) c.steps.invariant.clear;
      below = rows_below c.args.rows.now c.steps.rows c.push.new.self c.args.steps.now c.steps.step-index c.args.last
          c.step-item.result c.as_slice.result.now c.steps-test.true c.step-item.is c.as_slice.ensures
          c.steps.invariant.passed c.requires.steps c.steps.invariant.below c.in_ok-push.ensures.ok;
      passed = steps_more c.args.rows.now c.steps.rows c.push.new.self c.args.steps.now c.steps.step-index c.args.last
          c.step-item.result c.as_slice.result.now c.steps-test.true c.step-item.is c.as_slice.ensures
          c.steps.invariant.passed (c.in_ok-step_passes.ensures.exact.0 c.if-not-branch.false) c.in_ok-push.ensures.ok;
    }

pub returns : goal.returns
returns c = (
  (λ so. steps_end c.args.rows.now c.steps.rows c.args.steps.now c.steps.step-index c.steps.invariant.passed
      c.steps-test.false),
  (λ h. refl),
)
