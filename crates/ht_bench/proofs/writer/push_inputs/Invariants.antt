use Rattle.std.proofs.Common.{◌≡◌, ◌++◌, map, take}
use Rattle.ht_net.specs.Build.Named.{named_of}
use Rattle.ht_statement.specs.Statement.{input_line}
use Rattle.ht_bench.specs.Normal.{statement_lines}
use Rattle.ht_bench.proofs.writer.push_inputs.Given as goal

abbrev pub invariant-loop-input : goal.invariant-loop-input
invariant-loop-input l = l.text.items ≡ l.initial.text.items
    ++ statement_lines (map input_line (take l.input (named_of l.circuit).inputs))
