use Rattle.std.proofs.Common.{◌≡◌, take}
use Rattle.ht_proofs.specs.PackedView.{chosen_faults}
use Rattle.ht_compact.proofs.compaction.faults_at.Given as goal

abbrev pub invariant-loop-i : goal.invariant-loop-i
invariant-loop-i l = l.chosen.items ≡ chosen_faults l.faults (take l.i-index l.which)
