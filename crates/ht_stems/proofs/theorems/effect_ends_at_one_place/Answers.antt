use Rattle.ht_stems.proofs.UniqueLaws.{arrival_determined}
use Rattle.ht_stems.proofs.theorems.effect_ends_at_one_place.Goals as goal

pub returns : goal.returns
returns t = arrival_determined
