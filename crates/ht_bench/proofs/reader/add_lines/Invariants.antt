use Rattle.std.proofs.Common.{length}
use Rattle.ht_bench.proofs.ProgressLaws.{IsReading}
use Rattle.ht_bench.proofs.reader.add_lines.Given as goal

abbrev pub invariant-loop-line : goal.invariant-loop-line
invariant-loop-line l = IsReading l.text l.rest l.number l.builder

abbrev pub decreases-loop-line : goal.decreases-loop-line
decreases-loop-line l = length l.rest
