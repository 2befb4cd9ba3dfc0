use Rattle.std.proofs.Common.{◌<◌, ◌^◌, length}
use Rattle.ht_events.proofs.TableLaws.{HasDffs, HasGates, HasPins}
use Rattle.ht_events.proofs.readers.Readers.new.Given as goal

abbrev pub invariant-loop-j : goal.invariant-loop-j
invariant-loop-j l = record {
  few : length l.items.items < 2 ^ 48;
  rows : HasDffs l.circuit l.rows.items l.items.items l.j;
}

abbrev pub invariant-loop-g : goal.invariant-loop-g
invariant-loop-g l = record {
  few : length l.items.items < 2 ^ 48;
  rows : HasGates l.circuit l.rows.items l.items.items l.g;
}

abbrev pub invariant-loop-arg : goal.invariant-loop-arg
invariant-loop-arg l = record {
  few : length l.items.items < 2 ^ 48;
  rows : HasPins l.circuit l.rows.items l.items.items l.g l.arg-index;
}
