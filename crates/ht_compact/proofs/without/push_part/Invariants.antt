use Rattle.std.proofs.Common.{◌≡◌, ◌-◌, ◌++◌, take, drop}
use Rattle.ht_compact.proofs.without.push_part.Given as goal

abbrev pub invariant-loop-s : goal.invariant-loop-s
invariant-loop-s l = l.kept ≡ record l.initial.kept {
  list = l.initial.kept.list ++ take (l.s - l.from) (drop l.from l.list.list);
}
