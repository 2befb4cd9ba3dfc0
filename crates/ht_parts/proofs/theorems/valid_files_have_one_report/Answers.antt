use Rattle.ht_parts.proofs.OneReportLaws.{one_valid_report}
use Rattle.ht_parts.proofs.theorems.valid_files_have_one_report.Goals as goal

pub returns : goal.returns
returns c = one_valid_report
