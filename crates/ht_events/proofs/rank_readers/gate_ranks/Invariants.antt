use Rattle.std.proofs.Common.{take}
use Rattle.ht_events.specs.Schedules.{AreGateRanks}
use Rattle.ht_events.proofs.rank_readers.gate_ranks.Given as goal

abbrev pub invariant-loop-item : goal.invariant-loop-item
invariant-loop-item l = AreGateRanks l.circuit l.ranks (take l.item-index l.items) l.row.items
