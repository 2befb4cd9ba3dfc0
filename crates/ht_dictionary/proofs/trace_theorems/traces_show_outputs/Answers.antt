use Rattle.ht_dictionary.proofs.TraceLaws.{trace_shows}
use Rattle.ht_dictionary.proofs.trace_theorems.traces_show_outputs.Goals as goal

pub returns : goal.returns
returns c = trace_shows
