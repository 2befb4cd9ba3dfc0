use Rattle.ht_dictionary.proofs.RespondLaws.{shown_is_read}
use Rattle.ht_dictionary.proofs.response_theorems.responses_are_read.Goals as goal

pub returns : goal.returns
returns c = shown_is_read
