use Rattle.ht_window.proofs.RenewLaws.{AreRenewed}
use Rattle.ht_window.proofs.renew.renew_line.Given as goal

abbrev pub invariant-loop-frame : goal.invariant-loop-frame
invariant-loop-frame l = AreRenewed l.fn.core l.fn.held l.core l.held (λ k. k) (λ k. l.net) l.frame
