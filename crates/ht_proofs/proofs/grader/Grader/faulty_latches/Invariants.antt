use Rattle.std.proofs.Common.{◌≡◌, take}
use Rattle.ht_proofs.specs.PackedView.{state_at}
use Rattle.ht_proofs.proofs.grader.Grader.faulty_latches.Given as goal

abbrev pub invariant-loop-j : goal.invariant-loop-j
invariant-loop-j l = l.latches.items ≡ take l.j (state_at l.self l.k)
