use Rattle.std.proofs.Common.{◌<◌, arith}
use Rattle.std.proofs.lemmas.List.Elements.{All-more}
use Rattle.ht_cubes.specs.declared.rail.Rail.{Rail}
use Rattle.ht_cubes.proofs.ListLaws.{all_found}
use Rattle.ht_close.specs.ShortLines.{short_number}
use Rattle.ht_close.proofs.short.are_short_rails.Goals as goal

pub loop-rail-preserved : goal.loop-rail-preserved
loop-rail-preserved c = All-more (λ (rail : Rail). rail.dff < short_number) c.args.cube.now c.loop-rail.rail-index _
    c.loop-rail-test.true c.loop-rail.invariant c.if-rail-ge-SHORT_NUMBER.false

pub returns : goal.returns
returns c = (all_found (λ (rail : Rail). rail.dff < short_number) c.args.cube.now c.loop-rail.rail-index
    (omega (arith, c.loop-rail-test.false)) c.loop-rail.invariant).0
