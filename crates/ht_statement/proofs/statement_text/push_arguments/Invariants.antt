use Rattle.std.proofs.Common.{◌≡◌, ◌++◌, map, take}
use Rattle.ht_net.specs.Build.Named.{name_of}
use Rattle.ht_statement.specs.StatementText.{arguments_text}
use Rattle.ht_statement.proofs.statement_text.push_arguments.Given as goal

abbrev pub invariant-loop-place : goal.invariant-loop-place
invariant-loop-place l = l.text.items ≡ l.initial.text.items
    ++ arguments_text (map (name_of l.circuit) (take l.place l.args))
