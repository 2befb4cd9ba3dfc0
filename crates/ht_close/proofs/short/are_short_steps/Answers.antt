use Rattle.std.proofs.Common.{arith, subst}
use Rattle.std.proofs.lemmas.List.Elements.{All-more}
use Rattle.ht_cubes.proofs.ListLaws.{all_found}
use Rattle.ht_valid.specs.WritableEntries.{IsShortStep}
use Rattle.ht_close.proofs.short.are_short_steps.Goals as goal

pub loop-step-preserved : goal.loop-step-preserved
loop-step-preserved c =
    All-more IsShortStep c.args.steps.now c.loop-step.step-index c.step-item.result c.loop-step-test.true
    c.loop-step.invariant
    (subst IsShortStep c.step-item.is (c.is_short_step.ensures c.if-not-is_short_step.false))

pub returns : goal.returns
returns c = (all_found IsShortStep c.args.steps.now c.loop-step.step-index (omega (arith, c.loop-step-test.false))
    c.loop-step.invariant).0
