use Rattle.ht_texts.proofs.ReportWrittenLaws.{written_is_report}
use Rattle.ht_texts.proofs.theorems.reports_are_read.Goals as goal

pub returns : goal.returns
returns c = written_is_report
