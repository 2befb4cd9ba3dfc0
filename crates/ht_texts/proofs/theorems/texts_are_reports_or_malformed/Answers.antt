use Rattle.ht_texts.proofs.ReportTextLaws.{report_or_malformed}
use Rattle.ht_texts.proofs.theorems.texts_are_reports_or_malformed.Goals as goal

pub returns : goal.returns
returns c = λ circuit representatives text classes. report_or_malformed circuit representatives text classes.every
