use Rattle.std.proofs.Common.{◌≡◌}
use Rattle.ht_tree.specs.Record.Reached.{AreVectors}
use Rattle.ht_close.proofs.judge.list_of.Given as goal

abbrev pub invariant-loop-vector : goal.invariant-loop-vector
invariant-loop-vector l = record {
  width : l.list.width ≡ l.circuit.inputs;
  wide : AreVectors l.circuit l.list.list;
}
