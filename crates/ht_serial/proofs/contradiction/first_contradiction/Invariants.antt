use Rattle.std.proofs.Common.{◌≡◌, ◌<◌, ℕ}
use Rattle.ht_net.specs.Detect.Detection.{unknown_state}
use Rattle.ht_serial.specs.Contradictions.{Contradicts}
use Rattle.ht_serial.proofs.RowLaws.{after_first}
use Rattle.ht_serial.proofs.contradiction.first_contradiction.Given as goal

abbrev pub invariant-loop-t : goal.invariant-loop-t
invariant-loop-t l = record {
  machine : l.machine ≡ after_first l.circuit l.fn.fault (unknown_state l.circuit) l.list.list l.t;
  none : (s o : ℕ) → s < l.t → ¬ Contradicts l.circuit l.fn.fault l.list.list l.observation.rows s o;
}
