use Rattle.ht_texts.proofs.LineLengthLaws.{report_is_short}
use Rattle.ht_texts.proofs.theorems.report_lines_are_short.Goals as goal

pub returns : goal.returns
returns c = report_is_short
