use Rattle.std.proofs.Common.{◌≡◌, drop}
use Rattle.ht_net.specs.Circuit.Netlist.{gate_at}
use Rattle.ht_tree.specs.Window.Windows.{cell_at, pair_set_rules}
use Rattle.ht_tree.specs.Window.WalkBack.{undetermined_argument}
use Rattle.ht_window.proofs.window.Window.undetermined_argument.Given as goal

abbrev pub invariant-loop-i : goal.invariant-loop-i
invariant-loop-i l =
    undetermined_argument (pair_set_rules l.self.window.fault) l.g (cell_at l.self.window l.self.decisions l.frame) l.i
    (drop l.i (gate_at l.self.window.circuit l.g).args)
    ≡ undetermined_argument (pair_set_rules l.self.window.fault) l.g (cell_at l.self.window l.self.decisions l.frame) 0
    (gate_at l.self.window.circuit l.g).args
