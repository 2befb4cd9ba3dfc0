use Rattle.ht_judge.proofs.ReportLaws.{early_ends, whole_ends}
use Rattle.ht_judge.proofs.report_judge.ReportJudge.end.Goals as goal

pub returns-in-Ok-clause-ok : goal.returns-in-Ok-clause-ok
returns-in-Ok-clause-ok c =
    rw (← c.self.view_is)
    (λ start list lines j. whole_ends c.self.inside c.self.invariant start list lines j c.in-Ok.field-0
    c.in-Ok.ensures)

pub returns-in-Err-clause-err : goal.returns-in-Err-clause-err
returns-in-Err-clause-err c =
    rw (← c.self.view_is)
    (λ start list lines j. early_ends c.self.inside c.self.invariant start list lines j c.in-Err.malformed
    c.wrong_line.result c.wrong_line.ensures c.in-Err.ensures)
