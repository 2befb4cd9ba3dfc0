use Rattle.std.proofs.Common.{◌∙◌, ◌≤◌, ℕ, List, length, set, sym, ap, subst, arith}
use Rattle.std.proofs.lemmas.Bool.{ltb-false}
use Rattle.ht_relevant.specs.Distances.{DistanceState, AreDistances, HasGrown, distances_of, number_of}
use Rattle.ht_relevant.proofs.DistanceLaws.{put_distances, put_grown}
use Rattle.ht_relevant.proofs.distances.Distances.put.Goals as goal

pub invariant_of-self-2 : goal.invariant_of-self-2
invariant_of-self-2 c =
    let i = c.self.inside in
    let s = distances_of i in
    let r = c.requires in
    let n = ap (λ (d : DistanceState). length d.numbers) c.self.view_is in
    subst (λ (l : List ℕ). AreDistances (record s { numbers = set i.numbers.items c.args.net i.distance; here = l }))
    (sym c.in_ok-push.ensures.items) (put_distances s c.args.net (omega (arith, r, n)) c.self.invariant)

pub returns-clause-grown : goal.returns-clause-grown
returns-clause-grown c =
    let i = c.self.inside in
    let s = distances_of i in
    let r = c.requires in
    let n = ap (λ (d : DistanceState). length d.numbers) c.self.view_is in
    let free : s.frames ≤ number_of s c.args.net =
    subst (λ (d : DistanceState). d.frames ≤ number_of d c.args.net) (sym c.self.view_is)
    (ltb-false (number_of c.args.self.now c.args.net) c.args.self.now.frames (sym c.has.ensures ∙ c.if-has.false)) in
    subst (λ (d : DistanceState). HasGrown d (record s { numbers = set i.numbers.items c.args.net i.distance; here = c.push.new.self.items }))
    c.self.view_is
    (subst (λ (l : List ℕ). HasGrown s (record s { numbers = set i.numbers.items c.args.net i.distance; here = l }))
    (sym c.in_ok-push.ensures.items) (put_grown s c.args.net (omega (arith, r, n)) c.self.invariant.inside free))
