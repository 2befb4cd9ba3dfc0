use Rattle.std.proofs.Common.{◌<◌, arith, ℕ}
use Rattle.std.proofs.lemmas.List.Elements.{All-more}
use Rattle.ht_cubes.proofs.ListLaws.{all_found}
use Rattle.ht_close.specs.ShortLines.{short_number}
use Rattle.ht_close.proofs.short.are_short_hints.Goals as goal

pub loop-hint-preserved : goal.loop-hint-preserved
loop-hint-preserved c = All-more (λ (hint : ℕ). hint < short_number) c.args.hints.now c.loop-hint.hint-index _
    c.loop-hint-test.true c.loop-hint.invariant c.if-hint-ge-SHORT_NUMBER.false

pub returns : goal.returns
returns c = (all_found (λ (hint : ℕ). hint < short_number) c.args.hints.now c.loop-hint.hint-index
    (omega (arith, c.loop-hint-test.false)) c.loop-hint.invariant).0
