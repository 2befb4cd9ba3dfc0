use Rattle.std.proofs.Common.{◌≡◌, length, take}
use Rattle.ht_net.specs.Circuit.Netlist.{net_count}
use Rattle.ht_net.specs.Detect.Detection.{state_from}
use Rattle.ht_frame.specs.declared.frame.TheConstants.{MAX_GATE_PINS}
use Rattle.ht_dictionary.specs.Traces.{AreFrames}
use Rattle.ht_dictionary.proofs.frames.trace.Given as goal

abbrev pub invariant-loop-t : goal.invariant-loop-t
invariant-loop-t l = record {
  latches : l.latches.items ≡ state_from l.circuit l.fn.fault l.start (take l.t l.list.list);
  pins : length l.pins.items ≡ MAX_GATE_PINS;
  width : l.shown.width ≡ net_count l.circuit;
  frames : AreFrames l.circuit l.fn.fault l.start l.list.list l.t l.shown.rows;
}
