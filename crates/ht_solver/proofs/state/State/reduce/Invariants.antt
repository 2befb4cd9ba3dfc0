use Rattle.std.proofs.Common.{◌≡◌, ◌≤◌, length}
use Rattle.ht_solver.proofs.state.State.reduce.Given as goal

abbrev pub invariant-loop-at : goal.invariant-loop-at
invariant-loop-at l = record {
  spent : l.self.spent ≡ l.fn.self.spent;
  inside : l.at-end ≤ length l.self.learnt.items;
}
