use Rattle.ht_texts.proofs.WrittenLaws.{written_is_test_text, written_is_not_malformed}
use Rattle.ht_texts.proofs.theorems.tests_are_read.Goals as goal

pub returns-clause-list : goal.returns-clause-list
returns-clause-list c = written_is_test_text

pub returns-clause-no_line : goal.returns-clause-no_line
returns-clause-no_line c = written_is_not_malformed
