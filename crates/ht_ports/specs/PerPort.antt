-- One value for each port.
use Rattle.ht_ports.specs.declared.ports.InPort.{InPort}
use Rattle.ht_ports.specs.declared.ports.InPort.TheVariants.{Netlist, Tests, Report, Proofs, Faults, Extra}
use Rattle.ht_ports.specs.declared.ports.OutPort.{OutPort}
use Rattle.ht_ports.specs.declared.ports.OutPort.TheVariants as out_port
use Rattle.ht_ports.specs.declared.per_port.PerInPort.{PerInPort}
use Rattle.ht_ports.specs.declared.per_port.PerOutPort.{PerOutPort}

-- the value of a port that is read
abbrev pub at_in_port : {T : Type 0} → PerInPort T → InPort → T
at_in_port values Netlist = values.netlist
at_in_port values Tests = values.tests
at_in_port values Report = values.report
at_in_port values Proofs = values.proofs
at_in_port values Faults = values.faults
at_in_port values Extra = values.extra

-- the value of a port that is written
abbrev pub at_out_port : {T : Type 0} → PerOutPort T → OutPort → T
at_out_port values out_port.Tests = values.tests
at_out_port values out_port.Report = values.report
at_out_port values out_port.Proofs = values.proofs
at_out_port values out_port.Out = values.out
at_out_port values out_port.Err = values.err
