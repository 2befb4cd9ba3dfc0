use Rattle.ht_parts.proofs.OnePartLaws.{its_part}
use Rattle.ht_parts.proofs.theorems.each_class_is_in_one_part.Goals as goal

pub returns : goal.returns
returns c = its_part
