use Rattle.ht_statement.proofs.StatementTextLaws.{normal_reads}
use Rattle.ht_statement.proofs.PrintLaws.{normal_is_one_line}
use Rattle.ht_statement.proofs.theorems.normal_text_is_read.Goals as goal

pub returns-clause-states : goal.returns-clause-states
returns-clause-states c = normal_reads

pub returns-clause-one_line : goal.returns-clause-one_line
returns-clause-one_line c = normal_is_one_line
