use Rattle.std.proofs.Common.{◌∙◌, refl}
use Rattle.ht_parts.proofs.PartReportLaws.{early_ends, whole_ends}
use Rattle.ht_parts.proofs.part_report_judge.PartReportJudge.end.Goals as goal

pub returns-in-Ok-clause-ok : goal.returns-in-Ok-clause-ok
returns-in-Ok-clause-ok c =
    rw (← c.self.view_is)
    (λ start list lines j. whole_ends c.self.inside c.self.invariant start list lines j c.in-Ok.field-0
    (record { budget = c.self.inside.budget; saids = c.set_others_aside.new.saids }) c.in-Ok.ensures refl
    (λ representatives part is listed. c.set_others_aside.ensures representatives part (c.deref.ensures.value ∙ is)
    listed))

pub returns-in-Err-clause-err : goal.returns-in-Err-clause-err
returns-in-Err-clause-err c =
    rw (← c.self.view_is)
    (λ start list lines j. early_ends c.self.inside c.self.invariant start list lines j c.in-Err.malformed
    c.wrong_line.result c.wrong_line.ensures c.in-Err.ensures)
