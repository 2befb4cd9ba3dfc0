use Rattle.std.proofs.Common.{◌≡◌, ◌<◌, true, length}
use Rattle.ht_net.specs.Circuit.Netlist.{net_count}
use Rattle.ht_tree.specs.Window.Windows.{cell_at, pair_set_rules}
use Rattle.ht_tree.specs.Window.WalkBack.{back_over, end_in_frame}
use Rattle.ht_window.specs.Matters.{is_relevant}
use Rattle.ht_window.specs.WantedOf.{wanted_of}
use Rattle.ht_window.proofs.window.Window.end_in_frame.Given as goal

abbrev pub invariant-loop-left : goal.invariant-loop-left
invariant-loop-left l = record {
  known : l.net < net_count l.self.window.circuit;
  matters : is_relevant l.self.relevant l.frame l.net ≡ true;
  undetermined : 1 < length (cell_at l.self.window l.self.decisions l.frame l.net);
  same : back_over l.self.window.circuit (pair_set_rules l.self.window.fault)
      (cell_at l.self.window l.self.decisions l.frame) l.left (record { net = l.net; bit = l.bit })
      ≡ end_in_frame l.self.window l.self.decisions l.frame (wanted_of l.fn.at);
}

abbrev pub decreases-loop-left : goal.decreases-loop-left
decreases-loop-left l = l.left
