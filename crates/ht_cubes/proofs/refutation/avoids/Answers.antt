use Rattle.std.proofs.Common.{arith, List, refl, subst}
use Rattle.std.specs.List.{All}
use Rattle.std.proofs.lemmas.Bool.{both_ways, false≢true}
use Rattle.std.proofs.lemmas.List.{take_all}
use Rattle.std.proofs.lemmas.List.Elements.{All-more, All-get_or}
use Rattle.ht_cubes.specs.declared.rail.Rail.{Rail}
use Rattle.ht_cubes.specs.Rails.{Holds, both}
use Rattle.ht_cubes.proofs.refutation.avoids.Goals as goal

pub returns-then-not-held : goal.returns-then-not-held
returns-then-not-held c = (
  (λ yes all. both_ways c.holds-held.result c.if-not-held.true (c.holds-held.ensures.1
      (All-get_or (Holds (both c.args.state.now)) c.args.cube.now c.loop-rail.rail-index _ c.loop-rail-test.true all))),
  (λ h. refl),
)

pub loop-rail-preserved : goal.loop-rail-preserved
loop-rail-preserved c = All-more (Holds (both c.args.state.now)) c.args.cube.now c.loop-rail.rail-index _
    c.loop-rail-test.true c.loop-rail.invariant (c.holds-held.ensures.0 c.if-not-held.false)

pub returns : goal.returns
returns c =
    let P : List Rail → Type 0 = λ l. All (Holds (both c.args.state.now)) l in (
      (λ wrong. absurd (false≢true wrong)),
      (λ avoids. absurd (avoids (subst P
          (take_all c.loop-rail.rail-index c.args.cube.now (omega (arith, c.loop-rail-test.false))) c.loop-rail.invariant))),
    )
