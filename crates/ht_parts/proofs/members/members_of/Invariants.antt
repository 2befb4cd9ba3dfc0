use Rattle.ht_parts.proofs.MemberLaws.{AreDealt}
use Rattle.ht_parts.proofs.members.members_of.Given as goal

abbrev pub invariant-loop-i : goal.invariant-loop-i
invariant-loop-i l = AreDealt l.classes l.part l.members.items l.turn l.i
