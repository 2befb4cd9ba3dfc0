use Rattle.std.proofs.Common.{arith, List, ◌∙◌, ap, subst}
use Rattle.std.proofs.lemmas.List.Elements.{All-more}
use Rattle.ht_cubes.specs.declared.signed_var.SignedVar.{SignedVar}
use Rattle.ht_cubes.specs.declared.clause_step.ClauseStep.{ClauseStep}
use Rattle.ht_cubes.specs.Steps.{IsWithin}
use Rattle.ht_cubes.proofs.ListLaws.{all_found}
use Rattle.ht_cubes.proofs.steps.are_within.Goals as goal

pub loop-step-preserved : goal.loop-step-preserved
loop-step-preserved c =
    let P : List SignedVar → Type 0 = λ l. IsWithin c.args.last l in
    All-more (λ (s : ClauseStep). IsWithin c.args.last s.literals) c.args.steps.now c.loop-step.step-index
    c.step-item.result c.loop-step-test.true c.loop-step.invariant
    (subst P (c.as_slice.ensures ∙ ap (λ (s : ClauseStep). s.literals) c.step-item.is)
    (c.is_within.ensures.0 c.if-not-is_within.false))

pub returns : goal.returns
returns c = all_found (λ (s : ClauseStep). IsWithin c.args.last s.literals) c.args.steps.now c.loop-step.step-index
    (omega (arith, c.loop-step-test.false)) c.loop-step.invariant
