use Rattle.std.proofs.Common.{◌≡◌, ◌++◌, drop}
use Rattle.ht_net.specs.Circuit.Netlist.{gate_at}
use Rattle.ht_net.specs.Frames.Frame.{pin_values}
use Rattle.ht_cubes.specs.Cones.{marked}
use Rattle.ht_cubes.specs.Formula.{net_signal, pin_signals, signal_rules}
use Rattle.ht_cubes.proofs.machines.Machines.pins_of.Given as goal

abbrev pub invariant-lines : goal.invariant-lines
invariant-lines l = l.pins.items ++ pin_values (signal_rules l.self.fault l.faulty) l.g
    (net_signal l.self.circuit.now l.self.fault (marked l.self.cone.now) l.faulty) l.i (drop l.i
    (gate_at l.self.circuit.now l.g).args)
    ≡ pin_signals l.self.circuit.now l.self.fault (marked l.self.cone.now) l.faulty l.g
