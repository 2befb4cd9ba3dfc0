use Rattle.std.proofs.Common.{◌≡◌, ◌<◌, ◌≤◌, ◌-◌, ℕ, false, get_or}
use Rattle.ht_net.specs.Circuit.Netlist.{first_gate_net, net_count}
use Rattle.ht_recompute.specs.GateSets.{AreQuietSettled, sets_of}
use Rattle.ht_recompute.proofs.net_sets.settle_pending.Given as goal

abbrev pub invariant-loop-rank : goal.invariant-loop-rank
invariant-loop-rank l = record {
  quiet : AreQuietSettled l.under.circuit.now l.under.schedule.now l.under.fault l.pending l.values;
  sources : (x : ℕ) → x < first_gate_net l.under.circuit.now → sets_of l.values x ≡ sets_of l.fn.values x;
  done : (r : ℕ) → first_gate_net l.under.circuit.now ≤ r → r < l.from → get_or l.pending r false ≡ false;
  gates : first_gate_net l.under.circuit.now ≤ l.from;
  within : l.from ≤ net_count l.under.circuit.now;
}

abbrev pub decreases-loop-rank : goal.decreases-loop-rank
decreases-loop-rank l = net_count l.under.circuit.now - l.from
