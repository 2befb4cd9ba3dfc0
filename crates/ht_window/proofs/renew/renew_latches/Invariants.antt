use Rattle.std.proofs.Common.{◌+◌}
use Rattle.ht_window.proofs.RenewLaws.{AreRenewed}
use Rattle.ht_window.proofs.renew.renew_latches.Given as goal

abbrev pub invariant-loop-j : goal.invariant-loop-j
invariant-loop-j l = AreRenewed l.fn.core l.fn.held l.core l.held (λ k. 0) (λ k. l.inputs + k) l.j
