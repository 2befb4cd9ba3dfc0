use Rattle.std.proofs.Common.{◌≡◌, ◌<◌, ◌≤◌, ◌-◌, ◌*◌, ℕ, false, length, get_or}
use Rattle.ht_net.specs.Circuit.Netlist.{first_gate_net, net_count}
use Rattle.ht_group.specs.MachineWords.{AreFirstChanged, HaveRun}
use Rattle.ht_group.proofs.events.settle_words.Given as goal

abbrev pub invariant-loop-rank : goal.invariant-loop-rank
invariant-loop-rank l = record {
  ran : AreFirstChanged l.used (HaveRun l.circuit l.schedule l.pending) l.fn.words l.words;
  marks : length l.pending ≡ net_count l.circuit;
  done : (r : ℕ) → r < l.from → get_or l.pending r false ≡ false;
  within : l.from ≤ net_count l.circuit;
  steps : l.evaluated ≤ (l.from - first_gate_net l.circuit) * l.used;
}

abbrev pub decreases-loop-rank : goal.decreases-loop-rank
decreases-loop-rank l = net_count l.circuit - l.from
