use Rattle.std.proofs.Common.{ℕ, get_or, take}
use Rattle.std.specs.List.{sum_by}
use Rattle.ht_net.specs.Circuit.Netlist.{Gate}
use Rattle.ht_net.specs.Circuit.Levels.{times}
use Rattle.ht_stems.specs.declared.net_loads.NetLoads.TheVariants.{NoLoad}
use Rattle.ht_stems.specs.LoadsOfNets.{CountsAs}
use Rattle.ht_stems.proofs.net_loads.add_gates.Given as goal

abbrev pub invariant-loop-gate : goal.invariant-loop-gate
invariant-loop-gate l = (x : ℕ) → CountsAs l.circuit x
    (sum_by (λ (g : Gate). times x g.args) (take l.gate l.circuit.gates)) (get_or l.table x NoLoad)
