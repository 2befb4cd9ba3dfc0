use Rattle.ht_tern.proofs.GateLaws.{gate_definite}
use Rattle.ht_tern.proofs.theorems.definite_arguments_give_the_two_valued_gate.Goals as goal

pub returns : goal.returns
returns c = gate_definite
