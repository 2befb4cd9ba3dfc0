use Rattle.ht_causes.proofs.WordShownLaws.{AreLatchesBelow}
use Rattle.ht_causes.proofs.words.compare_latches.Given as goal

abbrev pub invariant-loop-j : goal.invariant-loop-j
invariant-loop-j l = AreLatchesBelow l.group l.t l.j l.from l.count l.initial.shown l.shown
