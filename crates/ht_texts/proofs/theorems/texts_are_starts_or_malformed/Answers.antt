use Rattle.ht_texts.proofs.StartLaws.{start_or_malformed}
use Rattle.ht_texts.proofs.theorems.texts_are_starts_or_malformed.Goals as goal

pub returns : goal.returns
returns c = start_or_malformed
