use Rattle.ht_records.proofs.FromLaws.{sealed_in_silent}
use Rattle.ht_records.proofs.theorems.clauses.sealed_under_an_invariant_is_silent.Goals as goal

pub returns : goal.returns
returns c = sealed_in_silent
