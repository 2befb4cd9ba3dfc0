use Rattle.std.proofs.Common.{length}
use Rattle.ht_bench.proofs.FindLineLaws.{HasLineAhead}
use Rattle.ht_bench.proofs.find_line.first_line.Given as goal

abbrev pub invariant-loop-line : goal.invariant-loop-line
invariant-loop-line l = HasLineAhead l.text l.rest l.number l.role l.name

abbrev pub decreases-loop-line : goal.decreases-loop-line
decreases-loop-line l = length l.rest
