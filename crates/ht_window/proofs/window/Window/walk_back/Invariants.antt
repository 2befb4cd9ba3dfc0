use Rattle.std.proofs.Common.{◌≡◌, ◌<◌, true, length}
use Rattle.ht_net.specs.Circuit.Netlist.{first_gate_net}
use Rattle.ht_tree.specs.Window.Windows.{cell_at}
use Rattle.ht_tree.specs.Window.WalkBack.{choice_at, walk_back}
use Rattle.ht_window.specs.Matters.{is_relevant}
use Rattle.ht_window.specs.WantedOf.{wanted_of}
use Rattle.ht_window.proofs.window.Window.walk_back.Given as goal

abbrev pub invariant-loop-frame : goal.invariant-loop-frame
invariant-loop-frame l = record {
  frame : l.frame < l.self.window.frames;
  low : l.at.net < first_gate_net l.self.window.circuit;
  matters : is_relevant l.self.relevant l.frame l.at.net ≡ true;
  undetermined : 1 < length (cell_at l.self.window l.self.decisions l.frame l.at.net);
  same : choice_at l.self.window l.self.decisions l.frame (wanted_of l.at) ≡ walk_back l.self.window l.self.decisions
      l.fn.frame l.fn.net.0 l.fn.wanted;
}

abbrev pub decreases-loop-frame : goal.decreases-loop-frame
decreases-loop-frame l = l.frame
