use Rattle.ht_lanes.specs.Lanes.{lane}
use Rattle.ht_lanes.proofs.QueryLaws.{opposite_of_zero, opposite_of_one, none_opposite}
use Rattle.ht_lanes.proofs.word.Word.opposite.Goals as goal

pub returns-in-Zero : goal.returns-in-Zero
returns-in-Zero c k below = rw c.in-Zero.is (opposite_of_zero _ _ _ k below c.self.invariant c.self.view_is)

pub returns-in-One : goal.returns-in-One
returns-in-One c k below = rw c.in-One.is (opposite_of_one _ _ _ k below c.self.invariant c.self.view_is)

pub returns-in-Unk : goal.returns-in-Unk
returns-in-Unk c k below = rw c.in-Unk.is (none_opposite (lane c.args.self k) k)
