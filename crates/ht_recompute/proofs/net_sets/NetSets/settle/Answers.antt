use Rattle.std.proofs.lemmas.Grind.{elements}
use Rattle.std.proofs.Common.{arith}
use Rattle.ht_recompute.proofs.net_sets.NetSets.settle.Goals as goal

pub follow-requires-clause-quiet : goal.follow-requires-clause-quiet
follow-requires-clause-quiet c = grind (arith, elements)
