use Rattle.std.proofs.Common.{◌≡◌, length}
use Rattle.ht_events.specs.Items.{item_count}
use Rattle.ht_events.proofs.LoadLaws.{IsTouched}
use Rattle.ht_events.proofs.event_core.Core.touch_loads.Given as goal

abbrev pub invariant-loop-offset : goal.invariant-loop-offset
invariant-loop-offset l = record {
  room : length l.marks ≡ item_count l.fn.self.plan.circuit l.fn.self.plan.frames;
  touched : IsTouched l.fn.self.plan l.initial.marks l.marks l.frame l.fn.net.0 l.offset-index;
}
