use Rattle.ht_lanes.proofs.LaneLaws.{splat_zero, splat_one, splat_unknown}
use Rattle.ht_lanes.proofs.word.Word.splat.Goals as goal

pub returns-in-Zero : goal.returns-in-Zero
returns-in-Zero c = rw c.in-Zero.is splat_zero

pub returns-in-One : goal.returns-in-One
returns-in-One c = rw c.in-One.is splat_one

pub returns-in-Unk : goal.returns-in-Unk
returns-in-Unk c = rw c.in-Unk.is splat_unknown
