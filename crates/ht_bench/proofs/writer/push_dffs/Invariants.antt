use Rattle.std.proofs.Common.{◌≡◌, ◌++◌, ◌+◌, map, drop}
use Rattle.ht_net.specs.Build.Named.{named_of, named_dffs}
use Rattle.ht_bench.specs.Normal.{statement_lines, dff_statement, dff_lines}
use Rattle.ht_bench.proofs.writer.push_dffs.Given as goal

-- what is written and the lines that are left
abbrev pub invariant-loop-dff : goal.invariant-loop-dff
invariant-loop-dff l = l.text.items ++ statement_lines
    (map dff_statement (named_dffs l.circuit (l.circuit.inputs + l.dff) (drop l.dff l.circuit.dffs)))
    ≡ l.initial.text.items ++ dff_lines (named_of l.circuit)
