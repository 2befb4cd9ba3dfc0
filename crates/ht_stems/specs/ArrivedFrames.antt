-- What a frame shows by where an effect ends.
use Rattle.std.specs.Prelude.{◌≡◌, ◌<◌, ℕ, List, None, set}
use Rattle.ht_tern.specs.declared.tern.Tern.{Tern}
use Rattle.ht_net.specs.Circuit.Netlist.{Netlist, net_count}
use Rattle.ht_net.specs.Frames.Frame.{Rules, net_value, frame_outputs, next_state}
use Rattle.ht_net.specs.Frames.Faults.{tern_rules}
use Rattle.ht_stems.specs.declared.arrival.Arrival.{Arrival}
use Rattle.ht_stems.specs.declared.arrival.Arrival.TheVariants.{Dies, AtLatch, AtOutput, AtStem}
use Rattle.ht_stems.specs.ForcedNets.{net_forced}

-- each net has its value in a frame of the good machine
pub record AreGoodValues (c : Netlist) (vector latches : List Tern) (good : ℕ → Tern) : Type 0 where
  pub value : (x : ℕ) → x < net_count c → good x ≡ net_value c (tern_rules None) vector latches x

-- What the outputs show: what they show in the good machine, perhaps but for one output, or what they show there with
-- one net forced.
abbrev pub arrived_outputs : Netlist → List Tern → List Tern → Arrival → List Tern
arrived_outputs c vector latches Dies = frame_outputs c (tern_rules None) vector latches
arrived_outputs c vector latches (AtLatch j v) = frame_outputs c (tern_rules None) vector latches
arrived_outputs c vector latches (AtOutput o v) = set (frame_outputs c (tern_rules None) vector latches) o v
arrived_outputs c vector latches (AtStem x v) = frame_outputs c (net_forced (tern_rules None) x.0 v) vector latches

-- what the flip-flops take, in the same way
abbrev pub arrived_next : Netlist → List Tern → List Tern → Arrival → List Tern
arrived_next c vector latches Dies = next_state c (tern_rules None) vector latches
arrived_next c vector latches (AtLatch j v) = set (next_state c (tern_rules None) vector latches) j v
arrived_next c vector latches (AtOutput o v) = next_state c (tern_rules None) vector latches
arrived_next c vector latches (AtStem x v) = next_state c (net_forced (tern_rules None) x.0 v) vector latches

-- A machine shows and takes in a frame what is left where an effect ends.
pub record ShowsArrival (c : Netlist) (r : Rules Tern) (vector latches : List Tern) (a : Arrival) : Type 0 where
  pub outputs : frame_outputs c r vector latches ≡ arrived_outputs c vector latches a
  pub next : next_state c r vector latches ≡ arrived_next c vector latches a

-- two machines show the same in a frame, and their flip-flops take the same
pub record ShowSame (c : Netlist) (r s : Rules Tern) (vector latches : List Tern) : Type 0 where
  pub outputs : frame_outputs c r vector latches ≡ frame_outputs c s vector latches
  pub next : next_state c r vector latches ≡ next_state c s vector latches
