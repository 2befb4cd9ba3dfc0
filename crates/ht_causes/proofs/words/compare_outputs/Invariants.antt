use Rattle.ht_causes.specs.Tracks.{AreOutputsShown}
use Rattle.ht_causes.proofs.words.compare_outputs.Given as goal

abbrev pub invariant-loop-o : goal.invariant-loop-o
invariant-loop-o l = AreOutputsShown l.group l.t l.o l.from l.count l.initial.shown l.shown
