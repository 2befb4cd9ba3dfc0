use Rattle.ht_bench.proofs.NormalBackLaws.{names_were_read}
use Rattle.ht_bench.proofs.theorems.a_circuit_that_was_read_has_names_of_the_format.Goals as goal

pub returns : goal.returns
returns _ = names_were_read
