use Rattle.std.proofs.Common.{◌≡◌, ◌++◌, ◌+◌, map, drop}
use Rattle.ht_net.specs.Circuit.Netlist.{first_gate_net}
use Rattle.ht_net.specs.Build.Named.{named_of, named_gates}
use Rattle.ht_bench.specs.Normal.{statement_lines, gate_statement, gate_lines}
use Rattle.ht_bench.proofs.writer.push_gates.Given as goal

-- what is written and the lines that are left
abbrev pub invariant-loop-gate : goal.invariant-loop-gate
invariant-loop-gate l = l.text.items ++ statement_lines
    (map gate_statement (named_gates l.circuit (first_gate_net l.circuit + l.gate) (drop l.gate l.circuit.gates)))
    ≡ l.initial.text.items ++ gate_lines (named_of l.circuit)
