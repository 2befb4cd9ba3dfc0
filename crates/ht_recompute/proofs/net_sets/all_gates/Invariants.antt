use Rattle.std.proofs.Common.{◌≡◌, ◌<◌, ◌≤◌, ℕ, true, false, length, get_or}
use Rattle.ht_net.specs.Circuit.Netlist.{first_gate_net, net_count}
use Rattle.ht_recompute.proofs.net_sets.all_gates.Given as goal

abbrev pub invariant-loop-rank : goal.invariant-loop-rank
invariant-loop-rank l = record {
  count : length l.pending ≡ net_count l.circuit;
  all : (r : ℕ) → first_gate_net l.circuit ≤ r → r < l.rank → get_or l.pending r false ≡ true;
}
