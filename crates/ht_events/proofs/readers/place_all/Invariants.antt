use Rattle.std.proofs.Common.{◌≡◌, ◌++◌, length, map, take, drop}
use Rattle.ht_events.specs.FramePlans.{offset_among}
use Rattle.ht_events.proofs.readers.place_all.Given as goal

abbrev pub invariant-loop-i : goal.invariant-loop-i
invariant-loop-i l = record {
  long : length l.items ≡ length l.initial.items;
  same : l.items ≡ map (offset_among l.ranks l.dffs) (take l.i l.initial.items) ++ drop l.i l.initial.items;
}
