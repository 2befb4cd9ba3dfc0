use Rattle.std.proofs.Common.{arith, List, ◌∙◌, subst}
use Rattle.std.proofs.lemmas.List.Elements.{All-more}
use Rattle.ht_cubes.specs.declared.rail.Rail.{Rail}
use Rattle.ht_cubes.proofs.ListLaws.{all_found}
use Rattle.ht_entries.specs.ProofLineLengths.{IsShortProofLine}
use Rattle.ht_entries.specs.ByCubes.{cube_text}
use Rattle.ht_close.proofs.short.are_short_cubes.Goals as goal

pub loop-cube-preserved : goal.loop-cube-preserved
loop-cube-preserved c =
    let P : List Rail → Type 0 = λ cube. IsShortProofLine (cube_text cube) in
    All-more P c.args.cubes.now c.loop-cube.cube-index c.cube-item.result c.loop-cube-test.true c.loop-cube.invariant
    (subst P (c.as_slice.ensures ∙ c.cube-item.is) (c.is_short_cube.ensures c.if-not-is_short_cube.false))

pub returns : goal.returns
returns c = (all_found (λ (cube : List Rail). IsShortProofLine (cube_text cube)) c.args.cubes.now
    c.loop-cube.cube-index (omega (arith, c.loop-cube-test.false)) c.loop-cube.invariant).0
