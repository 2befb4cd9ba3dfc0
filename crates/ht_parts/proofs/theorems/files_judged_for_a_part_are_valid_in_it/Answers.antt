use Rattle.ht_parts.proofs.JudgedLaws.{judged_is_valid}
use Rattle.ht_parts.proofs.theorems.files_judged_for_a_part_are_valid_in_it.Goals as goal

pub returns : goal.returns
returns c = judged_is_valid
