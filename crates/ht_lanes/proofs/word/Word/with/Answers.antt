use Rattle.std.specs.Int.{bit_not, w64}
use Rattle.ht_lanes.proofs.LaneLaws.{written_zero, written_one, written_unknown, apart_zero, apart_one, apart_unknown, bit_of}
use Rattle.ht_lanes.proofs.word.Word.with.Goals as goal

pub invariant_of-t-6 : goal.invariant_of-t-6
invariant_of-t-6 c = apart_zero c.self.inside.zero c.self.inside.one c.args.k c.requires c.self.invariant

pub invariant_of-t-6-in-One : goal.invariant_of-t-6-in-One
invariant_of-t-6-in-One c = apart_one c.self.inside.zero c.self.inside.one c.args.k c.requires c.self.invariant

pub invariant_of-result : goal.invariant_of-result
invariant_of-result c =
    apart_unknown c.self.inside.zero c.self.inside.one (bit_not w64 (bit_of c.args.k)) c.self.invariant

pub returns-in-Zero : goal.returns-in-Zero
returns-in-Zero c =
    rw c.in-Zero.is (written_zero c.args.self c.self.inside.zero c.self.inside.one c.args.k c.requires c.self.view_is)

pub returns-in-One : goal.returns-in-One
returns-in-One c =
    rw c.in-One.is (written_one c.args.self c.self.inside.zero c.self.inside.one c.args.k c.requires c.self.view_is)

pub returns-in-Unk : goal.returns-in-Unk
returns-in-Unk c =
    rw c.in-Unk.is
    (written_unknown c.args.self c.self.inside.zero c.self.inside.one c.args.k c.requires c.self.view_is)
