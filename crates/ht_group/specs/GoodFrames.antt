-- A frame of the good machine, by the values of its nets.
use Rattle.std.specs.Prelude.{◌≡◌, ◌<◌, ℕ, List, None, length, get_or, take, drop}
use Rattle.ht_tern.specs.declared.tern.Tern.{Tern}
use Rattle.ht_tern.specs.declared.tern.Tern.TheVariants.{Unk}
use Rattle.ht_net.specs.Circuit.Netlist.{Netlist, first_gate_net, net_count}
use Rattle.ht_net.specs.Frames.Frame.{net_value}
use Rattle.ht_net.specs.Frames.Faults.{tern_rules}
use Rattle.ht_group.specs.declared.good_frame.GoodFrame.{GoodFrame}

-- there is room for the sources, for the value of each net and for the pins of a gate
pub record HasFrameRoom (c : Netlist) (frame : GoodFrame) : Type 0 where
  pub source_count : length frame.sources.items ≡ first_gate_net c
  pub value_count : length frame.values.items ≡ net_count c
  pub room : length frame.pins.items ≡ 255

-- each net has its value in a frame from the sources
pub record IsGoodFrame (c : Netlist) (frame : GoodFrame) : Type 0 where
  pub room : HasFrameRoom c frame
  pub values : (x : ℕ) → x < net_count c → get_or frame.values.items x Unk
      ≡ net_value c (tern_rules None) (take c.inputs frame.sources.items) (drop c.inputs frame.sources.items) x

-- these are the values of all nets in the good machine's frame with a vector and latches
pub record AreFrameValues (c : Netlist) (vector latches values : List Tern) : Type 0 where
  pub count : length values ≡ net_count c
  pub each : (x : ℕ) → x < net_count c
      → get_or values x Unk ≡ net_value c (tern_rules None) vector latches x
