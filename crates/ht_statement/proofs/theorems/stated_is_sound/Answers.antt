use Rattle.ht_statement.proofs.StatedLaws.{stated_sound}
use Rattle.ht_statement.proofs.theorems.stated_is_sound.Goals as goal

pub returns : goal.returns
returns c = stated_sound
