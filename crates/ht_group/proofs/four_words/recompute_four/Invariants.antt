use Rattle.ht_group.specs.MachineWords.{AreFirstChanged, IsComputed}
use Rattle.ht_group.proofs.four_words.recompute_four.Given as goal

abbrev pub invariant-loop-w : goal.invariant-loop-w
invariant-loop-w l = AreFirstChanged l.w (IsComputed l.circuit l.net l.changed) l.fn.words l.words
