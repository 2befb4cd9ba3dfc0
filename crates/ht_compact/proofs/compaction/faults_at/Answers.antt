use Rattle.std.proofs.lemmas.Grind.{elements}
use Rattle.std.proofs.Common.{arith}
use Rattle.ht_compact.proofs.compaction.faults_at.Goals as goal

pub returns : goal.returns
returns c = grind (arith, elements)
