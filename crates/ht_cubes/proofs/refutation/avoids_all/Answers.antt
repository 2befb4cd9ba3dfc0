use Rattle.std.proofs.Common.{arith, List, ◌∙◌, subst}
use Rattle.std.proofs.lemmas.List.Elements.{All-more}
use Rattle.ht_cubes.specs.declared.rail.Rail.{Rail}
use Rattle.ht_cubes.specs.Rails.{Avoids, both}
use Rattle.ht_cubes.proofs.ListLaws.{all_found}
use Rattle.ht_cubes.proofs.refutation.avoids_all.Goals as goal

pub loop-cube-preserved : goal.loop-cube-preserved
loop-cube-preserved c =
    let P : List Rail → Type 0 = λ cube. Avoids (both c.args.state.now) cube in
    All-more P c.args.cubes.now c.loop-cube.cube-index c.cube-item.result c.loop-cube-test.true c.loop-cube.invariant
    (subst P (c.as_slice.ensures ∙ c.cube-item.is) (c.avoids.ensures.0 c.if-not-avoids.false))

pub returns : goal.returns
returns c = all_found (Avoids (both c.args.state.now)) c.args.cubes.now c.loop-cube.cube-index
    (omega (arith, c.loop-cube-test.false)) c.loop-cube.invariant
