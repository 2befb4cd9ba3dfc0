use Rattle.std.proofs.lemmas.Grind.{elements}
use Rattle.std.proofs.Common.{arith}
use Rattle.ht_bench.proofs.add_line.add_dff.Goals as goal

pub dff-requires-clause-out : goal.dff-requires-clause-out
dff-requires-clause-out c = grind (arith, elements)
