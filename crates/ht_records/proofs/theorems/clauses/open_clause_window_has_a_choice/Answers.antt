use Rattle.ht_records.proofs.ChoiceLaws.{open_legal}
use Rattle.ht_records.proofs.theorems.clauses.open_clause_window_has_a_choice.Goals as goal

pub returns : goal.returns
returns c = open_legal
