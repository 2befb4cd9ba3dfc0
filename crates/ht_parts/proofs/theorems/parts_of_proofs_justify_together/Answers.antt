use Rattle.ht_parts.proofs.TogetherLaws.{together_is_justified}
use Rattle.ht_parts.proofs.theorems.parts_of_proofs_justify_together.Goals as goal

pub returns : goal.returns
returns c = together_is_justified
