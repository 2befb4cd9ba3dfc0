use Rattle.std.proofs.Common.{◌∙◌, sym, ap, subst}
use Rattle.ht_relevant.specs.Distances.{DistanceState, AreFollowed}
use Rattle.ht_relevant.proofs.DistanceLaws.{any_least}
use Rattle.ht_relevant.proofs.SpreadLaws.{gone_on, one_got, one_less}
use Rattle.ht_relevant.proofs.spread.go_on.Goals as goal

pub next-init : goal.next-init
next-init c = gone_on c.args.distances.now c.advance.new.self c.advance.ensures

pub next-preserved : goal.next-preserved
next-preserved c =
    let e = c.in_ok-put.ensures in
    one_got c.args.distances.now c.next.distances c.pop_next.new.self c.put.new.self c.in-Some.net
    c.in-Some.ensures.some e.grown e.put c.next.invariant

pub next-smaller : goal.next-smaller
next-smaller c =
    let e = c.in_ok-put.ensures in
    one_less c.args.distances.now c.next.distances c.pop_next.new.self c.put.new.self c.in-Some.net
    c.in-Some.ensures.some e.grown e.next

pub returns-clause-followed : goal.returns-clause-followed
returns-clause-followed c = λ n way h.
    let same = c.in_default.ensures.same in
    any_least n way c.args.distances.now.distance c.pop_next.new.self.distance c.pop_next.new.self
    (ap (λ (d : DistanceState). d.next) same ∙ c.in_default.ensures.none)
    (subst (AreFollowed n way c.args.distances.now.distance) (sym same) (c.next.invariant.followed n way h))
