use Rattle.ht_records.proofs.UnderLaws.{meets_by_values, breaks_by_values}
use Rattle.ht_records.proofs.theorems.alike.clauses_depend_on_the_values.Goals as goal

pub returns : goal.returns
returns d = record { meets = meets_by_values; breaks = breaks_by_values }
