use Rattle.std.proofs.Common.{arith, ◌<◌, ◌≤◌, false}
use Rattle.std.proofs.lemmas.List.Elements.{All-more}
use Rattle.ht_cubes.specs.declared.signed_var.SignedVar.{SignedVar}
use Rattle.ht_cubes.proofs.ListLaws.{all_found}
use Rattle.ht_cubes.proofs.steps.is_within.Goals as goal

pub loop-literal-preserved : goal.loop-literal-preserved
loop-literal-preserved c =
    All-more (λ (l : SignedVar). (0 < l.variable) × (l.variable ≤ c.args.last)) c.args.clause.now
    c.loop-literal.literal-index (record { variable = 0; value = false }) c.loop-literal-test.true c.loop-literal.invariant
    (omega (arith, c.if-literal-eq0.false), omega (arith, c.if-literal-last.false))

pub returns : goal.returns
returns c = all_found (λ (l : SignedVar). (0 < l.variable) × (l.variable ≤ c.args.last)) c.args.clause.now
    c.loop-literal.literal-index (omega (arith, c.loop-literal-test.false)) c.loop-literal.invariant
