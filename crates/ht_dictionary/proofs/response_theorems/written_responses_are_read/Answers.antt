use Rattle.ht_dictionary.proofs.RespondLaws.{written_is_read, written_no_line, text_parts}
use Rattle.ht_dictionary.proofs.response_theorems.written_responses_are_read.Goals as goal

pub returns-clause-rows : goal.returns-clause-rows
returns-clause-rows c = written_is_read

pub returns-clause-no_line : goal.returns-clause-no_line
returns-clause-no_line c = written_no_line

pub returns-clause-parts : goal.returns-clause-parts
returns-clause-parts c = text_parts
