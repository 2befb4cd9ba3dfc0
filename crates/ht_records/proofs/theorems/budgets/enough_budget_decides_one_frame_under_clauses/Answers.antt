use Rattle.ht_records.proofs.UnderLaws.{refuting_enough}
use Rattle.ht_records.proofs.theorems.budgets.enough_budget_decides_one_frame_under_clauses.Goals as goal

pub returns : goal.returns
returns d = refuting_enough
