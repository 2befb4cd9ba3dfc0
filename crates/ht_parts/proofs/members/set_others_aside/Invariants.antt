use Rattle.ht_parts.proofs.SetAsideLaws.{IsSetAsideTo}
use Rattle.ht_parts.proofs.members.set_others_aside.Given as goal

abbrev pub invariant-loop-i : goal.invariant-loop-i
invariant-loop-i l = IsSetAsideTo l.members l.initial.saids.items l.saids.items l.i
