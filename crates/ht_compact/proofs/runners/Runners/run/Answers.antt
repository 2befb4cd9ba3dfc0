use Rattle.std.proofs.Common.{◌≡◌, ◌≤◌, ◌+◌, ◌-◌, inl, inr, length, arith}
use Rattle.ht_compact.proofs.EndLaws.{has_ended, listed_runners, lost_is_missed}
use Rattle.ht_compact.proofs.runners.Runners.run.Goals as goal

pub returns-then-has_ended-clause-ended : goal.returns-then-has_ended-clause-ended
returns-then-has_ended-clause-ended c = λ none.
    let circuit = c.args.frame.now.group.circuit in
    let graded = c.args.graded.now in
    let from = c.args.part.from in
    let to = c.args.part.to in
    let n = c.loop-t.t - to in
    let inside : to + n ≤ length graded.vectors.list =
    omega (arith, c.loop-t.invariant.within, c.loop-t.invariant.order) in
    let at : c.loop-t.t ≡ to + n = omega (arith, c.loop-t.invariant.order) in
    let run = c.join.ensures.run circuit from to n c.requires.may at inside c.loop-t.invariant.run in
    has_ended circuit graded from to n c.join.new.self c.requires.may inside run
    (c.has_ended.ensures.undetected c.if-has_ended.true) (inl (c.has_ended.ensures.joined c.if-has_ended.true))

pub lost-requires : goal.lost-requires
lost-requires c =
    listed_runners c.args.frame.now.group.circuit c.args.graded.now c.args.part.from c.args.part.to
    (c.loop-t.t - c.args.part.to) c.loop-t.self c.loop-t.invariant.run

pub returns-clause-ended : goal.returns-clause-ended
returns-clause-ended c = λ none.
    let graded = c.args.graded.now in
    let to = c.args.part.to in
    let n = c.loop-t.t - to in
    let last : to + n ≡ length graded.vectors.list =
    omega (arith, c.loop-t.invariant.within, c.loop-t.invariant.order, c.loop-t-test.false) in
    has_ended c.args.frame.now.group.circuit graded c.args.part.from to n c.loop-t.self c.requires.may
    (omega (arith, last)) c.loop-t.invariant.run (c.lost.ensures.none none) (inr last)

pub returns-clause-lost : goal.returns-clause-lost
returns-clause-lost c =
    let graded = c.args.graded.now in
    let to = c.args.part.to in
    let n = c.loop-t.t - to in
    lost_is_missed c.args.frame.now.group.circuit graded c.args.part.from to n c.loop-t.self c.lost.result
    c.requires.may (omega (arith, c.loop-t.invariant.within, c.loop-t.invariant.order, c.loop-t-test.false))
    c.loop-t.invariant.run c.lost.ensures.some
