use Rattle.std.proofs.Common.{◌≤◌, ℕ, subst, arith}
use Rattle.ht_relevant.specs.Distances.{number_of}
use Rattle.ht_relevant.specs.Steps.{AreSpread}
use Rattle.ht_relevant.proofs.DistanceLaws.{all_spread}
use Rattle.ht_relevant.proofs.spread.spread.Goals as goal

pub returns-clause-spread : goal.returns-clause-spread
returns-clause-spread c =
    let i = c.loop-distance.invariant in
    let t = c.loop-distance-test.false in
    let some = c.frames-frames.ensures.some in
    let frames = c.frames-frames.ensures.frames in
    let end : c.loop-distance.distance ≤ c.frames-frames.result = c.loop-distance.auto.distance-end (omega (arith, some, frames)) in
    let at = i.at in
    let same = i.lower.frames in
    subst (λ (n : ℕ). AreSpread c.args.frame_plan.now.circuit c.args.way n (number_of c.loop-distance.distances)) same
    (all_spread c.args.frame_plan.now.circuit c.args.way c.loop-distance.distances i.none
    (omega (arith, t, end, at, same, frames)) i.followed)
