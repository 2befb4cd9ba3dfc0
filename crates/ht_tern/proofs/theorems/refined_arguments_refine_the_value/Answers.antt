use Rattle.ht_tern.proofs.GateLaws.{gate_refines}
use Rattle.ht_tern.proofs.theorems.refined_arguments_refine_the_value.Goals as goal

pub returns : goal.returns
returns c = gate_refines
