use Rattle.std.proofs.Common.{◌≡◌, ◌++◌, map, drop}
use Rattle.ht_net.specs.Build.Named.{name_of, named_of}
use Rattle.ht_statement.specs.Statement.{output_line}
use Rattle.ht_bench.specs.Normal.{statement_lines, output_lines}
use Rattle.ht_bench.proofs.writer.push_outputs.Given as goal

-- what is written and the lines that are left
abbrev pub invariant-loop-output : goal.invariant-loop-output
invariant-loop-output l = l.text.items
    ++ statement_lines (map output_line (map (name_of l.circuit) (drop l.output l.circuit.outputs)))
    ≡ l.initial.text.items ++ output_lines (named_of l.circuit)
