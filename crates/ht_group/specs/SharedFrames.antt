-- What the words of a group share in a frame.
use Rattle.std.specs.Prelude.{◌≡◌, ℕ, true, false, length, get_or}
use Rattle.ht_net.specs.Circuit.Netlist.{IsCircuit, net_count}
use Rattle.ht_events.specs.Schedules.{IsSchedule}
use Rattle.ht_group.specs.GoodFrames.{IsGoodFrame}
use Rattle.ht_group.specs.declared.shared_frame.SharedFrame.{SharedFrame}

-- The schedule, the good machine and the pending nets belong to the circuit.
pub record IsSharedFrame (frame : SharedFrame) : Type 0 where
  pub circuit : IsCircuit frame.circuit.now
  pub schedule : IsSchedule frame.circuit.now frame.schedule
  pub good : IsGoodFrame frame.circuit.now frame.good
  pub marks : length frame.pending ≡ net_count frame.circuit.now

-- The frame is the same, and what was pending is so still.
pub record IsMorePending (old new : SharedFrame) : Type 0 where
  pub same : new ≡ record old { pending = new.pending }
  pub marks : length new.pending ≡ net_count old.circuit.now
  pub more : (r : ℕ) → get_or old.pending r false ≡ true → get_or new.pending r false ≡ true
