use Rattle.std.proofs.Common.{◌≡◌}
use Rattle.ht_full.proofs.known.leave_out_others.Given as goal

abbrev pub invariant-loop-fault : goal.invariant-loop-fault
invariant-loop-fault l = l.bursts ≡ l.fn.bursts
