use Rattle.std.proofs.Common.{◌≡◌, length, take}
use Rattle.ht_net.specs.Detect.Detection.{outputs_from}
use Rattle.ht_serial.proofs.RowLaws.{after_first, of_rows}
use Rattle.ht_serial.proofs.responses.respond.Given as goal

abbrev pub invariant-loop-t : goal.invariant-loop-t
invariant-loop-t l = record {
  machine : l.machine ≡ after_first l.circuit l.fn.fault l.start l.list.list l.t;
  shown : l.shown ≡ of_rows (length l.circuit.outputs)
      (take l.t (outputs_from l.circuit l.fn.fault l.start l.list.list));
}
