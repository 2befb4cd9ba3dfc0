use Rattle.std.proofs.Common.{◌<◌, ℕ}
use Rattle.ht_serial.specs.Opposites.{IsOppositeAt}
use Rattle.ht_serial.proofs.contradiction.first_opposite.Given as goal

abbrev pub invariant-loop-o : goal.invariant-loop-o
invariant-loop-o l = (o : ℕ) → o < l.o → ¬ IsOppositeAt l.row l.machine.outputs o
