use Rattle.std.proofs.lemmas.Grind.{elements}
use Rattle.std.proofs.Common.{arith}
use Rattle.ht_group.proofs.machines.Machines.add.Goals as goal

pub returns-in_err-add-clause-ok : goal.returns-in_err-add-clause-ok
returns-in_err-add-clause-ok c = grind (arith, elements)
