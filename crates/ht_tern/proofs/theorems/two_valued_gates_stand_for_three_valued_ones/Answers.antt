use Rattle.ht_tern.proofs.GateLaws.{gate_bits}
use Rattle.ht_tern.proofs.theorems.two_valued_gates_stand_for_three_valued_ones.Goals as goal

pub returns : goal.returns
returns c = gate_bits
