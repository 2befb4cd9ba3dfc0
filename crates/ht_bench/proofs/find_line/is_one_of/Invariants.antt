use Rattle.std.proofs.Common.{◌≡◌, drop}
use Rattle.ht_statement.specs.StatementOf.{texts_of}
use Rattle.ht_bench.specs.Different.{has_name}
use Rattle.ht_bench.proofs.find_line.is_one_of.Given as goal

abbrev pub invariant-loop-other : goal.invariant-loop-other
invariant-loop-other l = has_name (texts_of l.names) l.name ≡ has_name (texts_of (drop l.other-index l.names)) l.name
