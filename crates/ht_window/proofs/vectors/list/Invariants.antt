use Rattle.std.proofs.Common.{◌≡◌}
use Rattle.ht_tree.specs.Walk.FoundLists.{list_of}
use Rattle.ht_window.proofs.vectors.list.Given as goal

abbrev pub invariant-loop-frame : goal.invariant-loop-frame
invariant-loop-frame l = l.list ≡ record {
  width = l.window.window.circuit.inputs;
  list = list_of l.window.window.circuit l.window.decisions l.frame;
}
