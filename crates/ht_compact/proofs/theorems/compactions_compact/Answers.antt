use Rattle.ht_compact.proofs.ServesLaws.{classes_are_detected, compaction_compacts}
use Rattle.ht_compact.proofs.theorems.compactions_compact.Goals as goal

pub returns : goal.returns
returns c = record {
  compacts = λ circuit representatives most list. compaction_compacts circuit representatives most list;
  classes = λ circuit representatives list. classes_are_detected circuit representatives list;
}
