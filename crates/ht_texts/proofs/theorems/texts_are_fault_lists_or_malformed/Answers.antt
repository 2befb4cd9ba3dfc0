use Rattle.ht_texts.proofs.FaultListLaws.{fault_list_or_malformed}
use Rattle.ht_texts.proofs.theorems.texts_are_fault_lists_or_malformed.Goals as goal

pub returns : goal.returns
returns c = fault_list_or_malformed
