use Rattle.std.proofs.Common.{rules}
use Rattle.ht_app.proofs.CheckLaws.{job, judges}
use Rattle.ht_app.proofs.check.judge.Goals as goal

pub returns-in_err-graded : goal.returns-in_err-graded
returns-in_err-graded g c =
    let ends = c.in_err-graded.ensures.stopped (job c.args.files.now c.args.start.now)
    (judges c.args.files.now c.args.start.now) in
    record { made = search rules; stopped = search (rules, ends) }

pub judge_claims-judged-requires-clause-graded : goal.judge_claims-judged-requires-clause-graded
judge_claims-judged-requires-clause-graded g c = c.in_ok-graded.ensures.graded.of_circuit

pub judge_claims-judged-requires-clause-detections : goal.judge_claims-judged-requires-clause-detections
judge_claims-judged-requires-clause-detections g c =
    (c.in_ok-graded.ensures.graded.list, c.in_ok-graded.ensures.graded.first)

pub returns : goal.returns
returns g c =
    c.judge_claims-judged.ensures c.args.start.now (g.D.Desk.view c.args.desk.now) c.in_ok-graded.ensures.graded
