use Rattle.std.proofs.Common.{◌≡◌, ◌<◌, ℕ}
use Rattle.ht_events.specs.Pending.{IsPending}
use Rattle.ht_events.proofs.event_core.Core.touch_all.Given as goal

abbrev pub invariant-loop-item : goal.invariant-loop-item
invariant-loop-item l = record {
  plan : l.self.plan ≡ l.fn.self.plan;
  all : (y : ℕ) → y < l.item → IsPending l.self y;
}
