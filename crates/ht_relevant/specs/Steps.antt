-- Steps from net to net: to what reads a net, or to what its driver reads.
use Rattle.std.specs.Prelude.{◌≡◌, ◌<◌, ◌≤◌, ◌+◌, ℕ, length, get_or}
use Rattle.ht_net.specs.Circuit.Netlist.{Netlist, first_gate_net, gate_at, arg_at, no_net}
use Rattle.ht_relevant.specs.declared.way.Way.{Way}
use Rattle.ht_relevant.specs.declared.way.Way.TheVariants.{Readers, Drivers}

-- the gate that drives net y reads net x
pub record IsGateStep (c : Netlist) (x y : ℕ) : Type 0 where
  pub gate : ℕ
  pub pin : ℕ
  pub known : gate < length c.gates
  pub is_pin : pin < length (gate_at c gate).args
  pub argument : arg_at c gate pin ≡ x
  pub output : first_gate_net c + gate ≡ y

-- the flip-flop that drives net y reads net x
pub record IsDffStep (c : Netlist) (x y : ℕ) : Type 0 where
  pub dff : ℕ
  pub known : dff < length c.dffs
  pub argument : (get_or c.dffs dff no_net).0 ≡ x
  pub output : c.inputs + dff ≡ y

-- a way leads from net x to net y of the same frame
abbrev pub LeadsWithin : Netlist → Way → ℕ → ℕ → Type 0
LeadsWithin c Readers x y = IsGateStep c x y
LeadsWithin c Drivers x y = IsGateStep c y x

-- a way leads from net x to net y one frame on
abbrev pub LeadsOn : Netlist → Way → ℕ → ℕ → Type 0
LeadsOn c Readers x y = IsDffStep c x y
LeadsOn c Drivers x y = IsDffStep c y x

-- A number of frames for each net: where a way leads within the frame as many at most, and one frame on one more at most.
-- A number that isn't below that of all frames stands for none.
pub record AreSpread (c : Netlist) (way : Way) (frames : ℕ) (number : ℕ → ℕ) : Type 0 where
  pub within : (x y : ℕ) → LeadsWithin c way x y → number x < frames → number y ≤ number x
  pub on : (x y : ℕ) → LeadsOn c way x y → number x + 1 < frames → number y ≤ number x + 1
