use Rattle.std.proofs.Common.{◌≡◌}
use Rattle.ht_group.proofs.PutLaws.{ArePut}
use Rattle.ht_group.proofs.machines.put_differences.Given as goal

abbrev pub invariant-loop-i : goal.invariant-loop-i
invariant-loop-i l = record {
  good : l.sources.good ≡ l.fn.sources.good;
  put : ArePut l.circuit l.schedule.ranks.items l.k l.entries l.fn.sources l.fn.pending l.sources.words l.pending l.i;
}
