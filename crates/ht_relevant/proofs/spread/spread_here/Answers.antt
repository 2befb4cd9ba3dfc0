use Rattle.std.proofs.Common.{refl, ap, length, arith}
use Rattle.ht_relevant.specs.Distances.{DistanceState}
use Rattle.ht_relevant.proofs.DistanceLaws.{lower_same}
use Rattle.ht_relevant.proofs.SpreadLaws.{one_followed, one_left}
use Rattle.ht_relevant.proofs.spread.spread_here.Goals as goal

pub spread-init : goal.spread-init
spread-init c = record {
  lower = lower_same c.args.distances.now;
  distance = refl;
  followed = c.requires.followed;
}

pub follow-requires-clause-count : goal.follow-requires-clause-count
follow-requires-clause-count c =
    let e = ap (λ (d : DistanceState). length d.numbers) c.in-Some.ensures.some in
    let more = c.spread.invariant.lower.count in
    let count = c.requires.count in
    omega (arith, e, more, count)

pub follow-requires-clause-net : goal.follow-requires-clause-net
follow-requires-clause-net c =
    let e = ap (λ (d : DistanceState). length d.numbers) c.in-Some.ensures.some in
    let inside = c.in-Some.ensures.inside in
    let more = c.spread.invariant.lower.count in
    let count = c.requires.count in
    omega (arith, e, inside, more, count)

pub spread-preserved : goal.spread-preserved
spread-preserved c =
    let e = c.in_ok-follow.ensures in
    one_followed c.args.frame_plan.now.circuit c.args.way c.args.distances.now c.spread.distances c.pop.new.self
    c.follow.new.distances c.in-Some.net c.in-Some.ensures.some e.grown c.in-Some.ensures.here e.followed
    c.spread.invariant

pub spread-smaller : goal.spread-smaller
spread-smaller c =
    one_left c.args.frame_plan.now.circuit c.args.way c.args.distances.now c.spread.distances c.pop.new.self
    c.follow.new.distances c.in-Some.net c.in-Some.ensures.some c.in_ok-follow.ensures.grown
