use Rattle.std.proofs.Common.{arith, List, ◌∙◌, subst}
use Rattle.std.specs.List.{All}
use Rattle.std.proofs.lemmas.List.Elements.{All-more}
use Rattle.ht_cubes.specs.declared.rail.Rail.{Rail}
use Rattle.ht_cubes.specs.Rails.{IsKnownRail}
use Rattle.ht_cubes.specs.Cones.{marked}
use Rattle.ht_cubes.proofs.ListLaws.{all_found}
use Rattle.ht_cubes.proofs.refutation.are_known.Goals as goal

pub loop-cube-preserved : goal.loop-cube-preserved
loop-cube-preserved c =
    let P : List Rail → Type 0 = λ cube. All (IsKnownRail c.args.circuit.now (marked c.args.cone.now)) cube in
    All-more P c.args.cubes.now c.loop-cube.cube-index c.cube-item.result c.loop-cube-test.true c.loop-cube.invariant
    (subst P (c.as_slice.ensures ∙ c.cube-item.is) (c.is_known_cube.ensures.0 c.if-not-is_known_cube.false))

pub returns : goal.returns
returns c = all_found (All (IsKnownRail c.args.circuit.now (marked c.args.cone.now))) c.args.cubes.now
    c.loop-cube.cube-index (omega (arith, c.loop-cube-test.false)) c.loop-cube.invariant
