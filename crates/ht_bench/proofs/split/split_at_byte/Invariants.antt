use Rattle.ht_bench.specs.Split.{Lacks}
use Rattle.std.proofs.Common.{take}
use Rattle.ht_bench.proofs.split.split_at_byte.Given as goal

abbrev pub invariant-loop-place : goal.invariant-loop-place
invariant-loop-place l = Lacks (take l.place l.text) l.mark
