use Rattle.ht_bench.proofs.OneLaws.{one_circuit}
use Rattle.ht_bench.proofs.theorems.one_circuit_per_text.Goals as goal

pub returns : goal.returns
returns c = one_circuit
