-- Nets in a statement by their role, and the first line that has a net in a role.
use Rattle.std.specs.Prelude.{ℕ, ◌+◌, List}
use Rattle.std.specs.List.{position_or_len}
use Rattle.ht_net.specs.Build.Named.{Name}
use Rattle.ht_statement.specs.Statement.{Statement, names_in}
use Rattle.ht_bench.specs.Different.{has_name}
use Rattle.ht_bench.specs.Contents.{driven_in}
use Rattle.ht_bench.specs.declared.find_line.Role.{Role}
use Rattle.ht_bench.specs.declared.find_line.Role.TheVariants.{Mentioned, Driven}

-- the names that a statement drives, or all that it mentions
abbrev pub nets_in : Role → Statement → List Name
nets_in Mentioned statement = names_in statement
nets_in Driven statement = driven_in statement

-- the first line that has the net; lines count from 1
abbrev pub line_of : Role → List Statement → Name → ℕ
line_of role statements name = position_or_len (λ s. has_name (nets_in role s) name) statements + 1
