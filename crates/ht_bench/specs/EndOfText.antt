-- What is judged after the last line: nets that no line drives, and cycles of gates.
use Rattle.std.specs.Prelude.{ℕ, ◌<◌, ◌≤◌, List, [], length, get_or, not, find, Option, option_map}
use Rattle.ht_net.specs.Build.Finish.{IsNameCycle}
use Rattle.ht_net.specs.Build.Named.{Name}
use Rattle.ht_statement.specs.Statement.{Statement}
use Rattle.ht_bench.specs.Different.{has_name}
use Rattle.ht_bench.specs.Contents.{driven_by, stated_nets, named_of_statements, mention_rank}
use Rattle.ht_bench.specs.Role.{line_of}
use Rattle.ht_bench.specs.declared.find_line.Role.TheVariants.{Mentioned}
use Rattle.ht_bench.specs.declared.error.BenchError.{BenchError}
use Rattle.ht_bench.specs.declared.error.BenchError.TheVariants.{Undriven}

-- the net that is mentioned first of those that no line drives: the leftmost on the first line that mentions one
abbrev pub first_undriven : List Statement → Option Name
first_undriven statements = find (λ net. not (has_name (driven_by statements) net))
    (stated_nets statements)

-- the refusal of the first name that is mentioned and not driven, if there is one
abbrev pub undriven_refusal : List Statement → Option BenchError
undriven_refusal statements = option_map (λ net. Undriven (line_of Mentioned statements net) net)
    (first_undriven statements)

-- A cycle of gates: different nets, each an argument of the gate that drives the next, and the last one of the gate
-- that drives the first; the first is the one that is mentioned first.
pub record IsNetCycle (statements : List Statement) (cycle : List Name) : Type 0 where
  pub is_cycle : IsNameCycle (named_of_statements statements).gates cycle
  pub least : (k : ℕ) → k < length cycle → mention_rank statements (get_or cycle 0 [])
      ≤ mention_rank statements (get_or cycle k [])
