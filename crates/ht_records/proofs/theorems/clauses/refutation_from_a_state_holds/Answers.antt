use Rattle.ht_records.proofs.FromLaws.{refuted_from}
use Rattle.ht_records.proofs.theorems.clauses.refutation_from_a_state_holds.Goals as goal

pub returns : goal.returns
returns c = refuted_from
