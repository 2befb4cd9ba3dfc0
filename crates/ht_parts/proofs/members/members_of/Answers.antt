use Rattle.ht_parts.proofs.MemberLaws.{one_dealt}
use Rattle.ht_parts.proofs.members.members_of.Goals as goal

pub loop-i-preserved : goal.loop-i-preserved
loop-i-preserved c = one_dealt c.args.classes.now c.args.part _ _ _ _ c.loop-i.i c.is_own.result c.loop-i.invariant
    c.is_own.ensures c.in_ok-deal.ensures.member c.in_ok-deal.ensures.turn
