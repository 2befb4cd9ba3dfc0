use Rattle.ht_texts.specs.SearchReports.{IsReportFront}
use Rattle.ht_texts.proofs.ReportTextLaws.{front_of_front}
use Rattle.ht_texts.proofs.WrongLineLaws.{none_is_next}
use Rattle.ht_texts.proofs.WrongReportLaws.{front_is_right, wrong_is_first}
use Rattle.ht_texts.proofs.theorems.first_wrong_report_line.Goals as goal

pub returns-clause-read : goal.returns-clause-read
returns-clause-read c = front_is_right

pub returns-clause-none : goal.returns-clause-none
returns-clause-none c = λ circuit representatives.
    none_is_next (IsReportFront circuit representatives) (front_of_front circuit representatives)

pub returns-clause-first : goal.returns-clause-first
returns-clause-first c = wrong_is_first
