use Rattle.std.proofs.Common.{◌≡◌, length}
use Rattle.ht_net.specs.Circuit.Netlist.{net_count}
use Rattle.ht_tree.specs.Window.Windows.{latches_at}
use Rattle.ht_window.proofs.AllSetsLaws.{HasFrames}
use Rattle.ht_window.proofs.frames.all_sets.Given as goal

abbrev pub invariant-loop-frame : goal.invariant-loop-frame
invariant-loop-frame l = record {
  vector : length l.vector.items ≡ l.decisions.window.circuit.inputs;
  dffs : length l.latches.items ≡ length l.decisions.window.circuit.dffs;
  latches : l.latches.items ≡ latches_at l.decisions.window l.decisions.path l.frame;
  row : length l.row.items ≡ net_count l.decisions.window.circuit;
  pins : length l.pins.items ≡ 255;
  sets : HasFrames l.decisions.window l.decisions.path l.frame l.sets.items;
}
