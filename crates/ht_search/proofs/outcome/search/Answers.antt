use Rattle.std.proofs.Common.{subst}
use Rattle.ht_tree.specs.Walk.Searches.{SpendsAt}
use Rattle.ht_tree.proofs.CountLaws.{enough}
use Rattle.ht_search.proofs.EndLaws.{spends}
use Rattle.ht_search.proofs.outcome.search.Goals as goal

pub returns-in-Spent-clause-enough : goal.returns-in-Spent-clause-enough
returns-in-Spent-clause-enough g c =
    let p = g.P.Problem in
    let i = c.loop-progress.invariant in
    let now = c.loop-progress.progress in
    let s = rw c.in-Spent.is at c.in_ok-step.ensures.next in
    let at = p.route c.loop-progress.problem in
    let ends = spends (p.guide (p.subject c.loop-progress.problem)) c.mark-start.result at now i.walked c.args.unit
    c.args.budget i.weight s.2 s.3 in
    λ left measures large spent.
    enough (p.guide (p.subject c.args.problem.now)) left c.args.budget c.args.unit now.tokens.items at.here.node
    measures large
    (subst (λ (s : p.Subject). SpendsAt (p.guide s) c.args.budget c.args.unit now.tokens.items at.here.node) i.subject
    ends)
