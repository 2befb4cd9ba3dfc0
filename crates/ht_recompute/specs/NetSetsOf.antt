-- How the fields of sets of nets stand for what they keep from one frame to the next.
use Rattle.std.specs.Prelude.{◌≡◌, length}
use Rattle.ht_net.specs.Circuit.Netlist.{Netlist, max_arguments}
use Rattle.ht_events.specs.declared.schedule.Schedule.{Schedule}
use Rattle.ht_recompute.specs.GateSets.{AreQuietSettled}
use Rattle.ht_recompute.specs.declared.net_sets.NetSets.{NetSets}

-- The gates that aren't pending, by the ranks of a schedule, are settled, and there is room for the pins of a gate.
pub record AreNetSets (c : Netlist) (s : Schedule) (a : NetSets) : Type 0 where
  pub quiet : AreQuietSettled c s a.fault a.pending a.values.items
  pub pins : length a.pins.items ≡ max_arguments
