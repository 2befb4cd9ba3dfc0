use Rattle.std.proofs.Common.{◌<◌, ◌-◌, ℕ, get_or}
use Rattle.ht_net.specs.Circuit.Netlist.{first_gate_net}
use Rattle.ht_group.specs.StuckTables.{AreGateLanes}
use Rattle.ht_group.specs.declared.machines.Machines.{Machines}
use Rattle.ht_group.proofs.four_words.are_free.Given as goal

abbrev pub invariant-loop-w : goal.invariant-loop-w
invariant-loop-w l = (v : ℕ) (d : Machines) → v < l.w
    → AreGateLanes (get_or l.words v d).lines.faults.items (l.net - first_gate_net l.circuit) 0
