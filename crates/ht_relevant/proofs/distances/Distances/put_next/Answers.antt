use Rattle.std.proofs.Common.{ℕ, List, length, sym, ap, subst, arith}
use Rattle.ht_relevant.specs.Distances.{DistanceState, AreDistances, HasGrown, distances_of}
use Rattle.ht_relevant.proofs.DistanceLaws.{next_distances, next_grown}
use Rattle.ht_relevant.proofs.distances.Distances.put_next.Goals as goal

pub invariant_of-self-2 : goal.invariant_of-self-2
invariant_of-self-2 c =
    let s = distances_of c.self.inside in
    let r = c.requires in
    let n = ap (λ (d : DistanceState). length d.numbers) c.self.view_is in
    subst (λ (l : List ℕ). AreDistances (record s { next = l })) (sym c.in_ok-push.ensures.items)
    (next_distances s c.args.net (omega (arith, r, n)) c.self.invariant)

pub returns-clause-grown : goal.returns-clause-grown
returns-clause-grown c =
    let s = distances_of c.self.inside in
    subst (λ (d : DistanceState). HasGrown d (record s { next = c.push.new.self.items })) c.self.view_is
    (subst (λ (l : List ℕ). HasGrown s (record s { next = l })) (sym c.in_ok-push.ensures.items)
    (next_grown s c.args.net))
