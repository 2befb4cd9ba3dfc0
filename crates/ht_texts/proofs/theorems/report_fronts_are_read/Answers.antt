use Rattle.ht_texts.proofs.ReportFrontLaws.{front_is_reading, reading_is_front, one_reading}
use Rattle.ht_texts.proofs.theorems.report_fronts_are_read.Goals as goal

pub returns-clause-read : goal.returns-clause-read
returns-clause-read c = front_is_reading

pub returns-clause-begins : goal.returns-clause-begins
returns-clause-begins c = reading_is_front

pub returns-clause-once : goal.returns-clause-once
returns-clause-once c = one_reading
