use Rattle.std.proofs.Common.{◌≤◌, ◌*◌, ◌^◌}
use Rattle.ht_events.specs.NetRows.{AreEmptyRows}
use Rattle.ht_events.proofs.readers.empty_rows.Given as goal

abbrev pub invariant-loop-net : goal.invariant-loop-net
invariant-loop-net l = record {
  rows : AreEmptyRows l.circuit l.net l.rows.items l.room;
  few : l.room ≤ l.net * 2 ^ 32;
}
