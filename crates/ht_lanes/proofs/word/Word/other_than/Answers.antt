use Rattle.ht_lanes.proofs.QueryLaws.{other_than_zero, other_than_one, other_than_unknown}
use Rattle.ht_lanes.proofs.word.Word.other_than.Goals as goal

pub returns-in-Zero : goal.returns-in-Zero
returns-in-Zero c k below = rw c.in-Zero.is (other_than_zero _ _ _ k below c.self.invariant c.self.view_is)

pub returns-in-One : goal.returns-in-One
returns-in-One c k below = rw c.in-One.is (other_than_one _ _ _ k below c.self.invariant c.self.view_is)

pub returns-in-Unk : goal.returns-in-Unk
returns-in-Unk c k below = rw c.in-Unk.is (other_than_unknown _ _ _ k below c.self.invariant c.self.view_is)
