use Rattle.std.proofs.Common.{◌≡◌, ◌≤◌, take}
use Rattle.std.specs.List.{count_by, range_with_len}
use Rattle.ht_events.specs.Pending.{pends, core_items}
use Rattle.ht_events.proofs.event_core.Core.pending.Given as goal

abbrev pub invariant-loop-item : goal.invariant-loop-item
invariant-loop-item l = record {
  few : l.count ≤ l.item;
  same : l.count ≡ count_by (pends l.self) (take l.item (range_with_len 0 (core_items l.self)));
}
