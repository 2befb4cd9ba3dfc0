use Rattle.std.proofs.Common.{◌≤◌, arith, length}
use Rattle.ht_parts.proofs.SetAsideLaws.{all_set_aside, one_set_aside}
use Rattle.ht_parts.proofs.members.set_others_aside.Goals as goal

pub loop-i-preserved : goal.loop-i-preserved
loop-i-preserved c = one_set_aside _ _ _ _ _ c.loop-i.invariant c.set_aside.ensures

pub returns : goal.returns
returns c =
    let all : length c.args.saids.now.items ≤ c.loop-i.i = omega arith in
    λ representatives part is listed. all_set_aside representatives part c.args.members.now c.args.saids.now.items
    c.loop-i.saids.items c.loop-i.i is listed all c.loop-i.invariant
