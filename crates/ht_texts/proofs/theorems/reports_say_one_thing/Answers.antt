use Rattle.ht_texts.proofs.ReportFrontLaws.{one_report}
use Rattle.ht_texts.specs.SearchReports.{IsWrongReportLine}
use Rattle.ht_texts.proofs.ReportTextLaws.{report_is_not_malformed}
use Rattle.ht_texts.proofs.WrongLineLaws.{one_first}
use Rattle.ht_texts.proofs.theorems.reports_say_one_thing.Goals as goal

pub returns-clause-one : goal.returns-clause-one
returns-clause-one c = λ circuit representatives text budget other a b is of_a of_b.
    one_report circuit representatives _ budget other a b is of_a.report of_b.report

pub returns-clause-not_malformed : goal.returns-clause-not_malformed
returns-clause-not_malformed c = report_is_not_malformed

pub returns-clause-one_line : goal.returns-clause-one_line
returns-clause-one_line c = λ circuit representatives text.
    one_first (IsWrongReportLine circuit representatives text)
