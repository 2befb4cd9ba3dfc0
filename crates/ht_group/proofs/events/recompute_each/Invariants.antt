use Rattle.ht_group.specs.MachineWords.{AreFirstChanged, IsComputed}
use Rattle.ht_group.proofs.events.recompute_each.Given as goal

abbrev pub invariant-loop-w : goal.invariant-loop-w
invariant-loop-w l = AreFirstChanged l.w (IsComputed l.circuit l.net l.changed) l.fn.words l.words
