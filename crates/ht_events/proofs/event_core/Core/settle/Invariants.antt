use Rattle.std.proofs.Common.{◌≡◌, ◌<◌, ◌≤◌, ◌+◌, ◌-◌, ◌*◌, ℕ}
use Rattle.ht_events.specs.Plans.{position_at}
use Rattle.ht_events.specs.Pending.{IsPending, QuietAgree, core_items}
use Rattle.ht_events.proofs.event_core.Core.settle.Given as goal

abbrev pub invariant-loop-position : goal.invariant-loop-position
invariant-loop-position g l = record {
  plan : l.self.plan ≡ l.fn.self.plan;
  circuit : g.P.Plant.circuit l.plant ≡ g.P.Plant.circuit l.fn.plant;
  frames : g.P.Plant.frames l.plant ≡ g.P.Plant.frames l.fn.plant;
  keeps : g.P.Plant.keeps l.fn.plant l.plant;
  price : g.P.Plant.price l.plant ≡ g.P.Plant.price l.fn.plant;
  inside : l.from ≤ core_items l.fn.self;
  spent : g.P.Plant.spent l.plant ≤ g.P.Plant.spent l.fn.plant + l.from * g.P.Plant.price l.fn.plant;
  agree : QuietAgree l.fn.self (g.P.Plant.agrees l.fn.plant) → QuietAgree l.self (g.P.Plant.agrees l.plant);
  below : (y : ℕ) → y < core_items l.fn.self → position_at l.fn.self.plan y < l.from → ¬ IsPending l.self y;
}

abbrev pub decreases-loop-position : goal.decreases-loop-position
decreases-loop-position g l = core_items l.fn.self - l.from
