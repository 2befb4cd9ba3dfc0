use Rattle.std.proofs.Common.{◌∙◌, sym}
use Rattle.ht_search.proofs.GoesLaws.{goes_before}
use Rattle.ht_search.proofs.step.step.Goals as goal

pub returns-in_ok-write-in-Sure-clause-next : goal.returns-in_ok-write-in-Sure-clause-next
returns-in_ok-write-in-Sure-clause-next g c =
    let p = g.P.Problem in
    let w = c.in_ok-write-in-Sure.ensures in
    let d = c.in_ok-deeper-in-Sure.ensures in
    let deep = c.if-not-branch.false in
    goes_before (p.guide (p.subject c.args.problem.now)) c.args.start (p.route c.args.problem.now) c.args.progress.now
    c.requires c.args.unit (p.route c.deeper.new.self) c.write.new.self
    (sym c.in-Sure.ensures) (sym d.told ∙ deep) (d.more deep) w.tokens w.left w.untried
