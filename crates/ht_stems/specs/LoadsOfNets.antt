-- What reads a net: nothing, only one pin or output, or more.
use Rattle.std.specs.Prelude.{◌≡◌, ◌<◌, ◌+◌, ℕ, List, length, get_or}
use Rattle.ht_net.specs.declared.net.NetId.{NetId}
use Rattle.ht_net.specs.Circuit.Netlist.{Netlist, IsCircuit, gate_at, net_count, no_net}
use Rattle.ht_net.specs.Circuit.Levels.{times, loads_of}
use Rattle.ht_stems.specs.declared.net_loads.NetLoads.{NetLoads}
use Rattle.ht_stems.specs.declared.net_loads.NetLoads.TheVariants.{NoLoad, OneGate, OneDataPin, OneOutput, Several}

-- n loads of net x are summed up so: none, one that is a pin of gate g, the data pin of flip-flop j or output o, or two
-- or more
abbrev pub CountsAs : Netlist → ℕ → ℕ → NetLoads → Type 0
CountsAs c x n NoLoad = n ≡ 0
CountsAs c x n (OneGate g) = (n ≡ 1) × (g < length c.gates) × (0 < times x (gate_at c g).args)
CountsAs c x n (OneDataPin j) = (n ≡ 1) × (j < length c.dffs) × ((get_or c.dffs j no_net).0 ≡ x)
CountsAs c x n (OneOutput o) = (n ≡ 1) × (o < length c.outputs) × ((get_or c.outputs o no_net).0 ≡ x)
CountsAs c x n Several = 1 < n

-- these are all loads of net x
abbrev pub HasLoads : Netlist → ℕ → NetLoads → Type 0
HasLoads c x loads = CountsAs c x (loads_of c x) loads

-- a table has an entry for each net of a circuit
pub record HasEntries (c : Netlist) (table : List NetLoads) : Type 0 where
  pub circuit : IsCircuit c
  pub count : length table ≡ net_count c

-- a table counts what an older one does, and each place of a list of nets besides
abbrev pub CountsMore : Netlist → List NetLoads → List NetLoads → List NetId → Type 0
CountsMore c old new nets = (n : ℕ → ℕ) → ((x : ℕ) → CountsAs c x (n x) (get_or old x NoLoad))
    → (x : ℕ) → CountsAs c x (n x + times x nets) (get_or new x NoLoad)

-- a table has the loads of each net
pub record AreLoads (c : Netlist) (table : List NetLoads) : Type 0 where
  pub count : length table ≡ net_count c
  pub each : (x : ℕ) → x < net_count c → HasLoads c x (get_or table x NoLoad)

-- the loads of a net with one more
abbrev pub with_load : NetLoads → NetLoads → NetLoads
with_load NoLoad load = load
with_load (OneGate g) load = Several
with_load (OneDataPin j) load = Several
with_load (OneOutput o) load = Several
with_load Several load = Several
