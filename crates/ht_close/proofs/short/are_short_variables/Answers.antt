use Rattle.std.proofs.Common.{◌<◌, arith}
use Rattle.std.proofs.lemmas.List.Elements.{All-more}
use Rattle.ht_cubes.specs.declared.signed_var.SignedVar.{SignedVar}
use Rattle.ht_cubes.proofs.ListLaws.{all_found}
use Rattle.ht_close.specs.ShortLines.{short_number}
use Rattle.ht_close.proofs.short.are_short_variables.Goals as goal

pub loop-literal-preserved : goal.loop-literal-preserved
loop-literal-preserved c =
    All-more (λ (literal : SignedVar). literal.variable < short_number) c.args.clause.now
    c.loop-literal.literal-index _ c.loop-literal-test.true c.loop-literal.invariant
    c.if-literal-ge-SHORT_NUMBER.false

pub returns : goal.returns
returns c =
    (all_found (λ (literal : SignedVar). literal.variable < short_number) c.args.clause.now
    c.loop-literal.literal-index (omega (arith, c.loop-literal-test.false)) c.loop-literal.invariant).0
