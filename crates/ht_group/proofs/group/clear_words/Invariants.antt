use Rattle.ht_group.specs.MachineWords.{AreFirstChanged, IsRestored}
use Rattle.ht_group.proofs.group.clear_words.Given as goal

abbrev pub invariant-loop-w : goal.invariant-loop-w
invariant-loop-w l = AreFirstChanged l.w (IsRestored l.circuit) l.fn.words l.words
