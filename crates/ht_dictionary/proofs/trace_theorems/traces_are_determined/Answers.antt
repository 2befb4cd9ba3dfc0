use Rattle.ht_dictionary.proofs.TraceLaws.{one_trace}
use Rattle.ht_dictionary.proofs.trace_theorems.traces_are_determined.Goals as goal

pub returns : goal.returns
returns c = one_trace
