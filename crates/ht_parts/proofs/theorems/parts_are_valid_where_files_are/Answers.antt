use Rattle.ht_parts.proofs.PartsLaws.{valid_in_each}
use Rattle.ht_parts.proofs.theorems.parts_are_valid_where_files_are.Goals as goal

pub returns : goal.returns
returns c = valid_in_each
