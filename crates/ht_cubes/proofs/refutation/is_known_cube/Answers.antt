use Rattle.std.proofs.Common.{arith}
use Rattle.std.proofs.lemmas.List.Elements.{All-more}
use Rattle.ht_cubes.specs.Rails.{IsKnownRail}
use Rattle.ht_cubes.specs.Cones.{marked}
use Rattle.ht_cubes.proofs.ListLaws.{all_found}
use Rattle.ht_cubes.proofs.refutation.is_known_cube.Goals as goal

pub loop-rail-preserved : goal.loop-rail-preserved
loop-rail-preserved c = All-more (IsKnownRail c.args.circuit.now (marked c.args.cone.now)) c.args.cube.now
    c.loop-rail.rail-index _ c.loop-rail-test.true c.loop-rail.invariant
    (c.is_known.ensures.0 c.if-not-is_known.false)

pub returns : goal.returns
returns c = all_found (IsKnownRail c.args.circuit.now (marked c.args.cone.now)) c.args.cube.now
    c.loop-rail.rail-index (omega (arith, c.loop-rail-test.false)) c.loop-rail.invariant
