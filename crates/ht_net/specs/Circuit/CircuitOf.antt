-- How a circuit's fields stand for it.
use Rattle.std.specs.Prelude.{◌≡◌, ℕ, ◌<◌, ◌≤◌, length, get_or, map, Vec}
use Rattle.std.specs.declared.alloc.Global.{Global}
use Rattle.ht_net.specs.Circuit.Netlist.{Netlist, first_gate_net, net_count, IsRank, IsCircuit, IsOrder, max_nets}
use Rattle.ht_net.specs.Circuit.GateLevels.{AreKnown}
use Rattle.ht_net.specs.Circuit.Levels.{level_of, loads_of, IsLevelOrder}
use Rattle.ht_net.specs.declared.circuit.Parts.{Parts}
use Rattle.ht_net.specs.declared.circuit.Circuit.TheInside.{Inside}

-- what the parts say
abbrev pub netlist_of : Parts → Netlist
netlist_of p = record {
  inputs = p.inputs;
  dffs = p.dffs.items;
  gates = p.gates;
  outputs = p.outputs.items;
  names = map (λ (v : Vec ℕ Global). v.items) p.names.items;
}

-- What is left to show of a circuit is that it has a rank.
pub record IsUnranked (c : Netlist) : Type 0 where
  pub few_nets : net_count c ≤ max_nets
  pub few_outputs : length c.outputs ≤ max_nets
  pub known : AreKnown (first_gate_net c) c.gates
  pub circuit : (rank : ℕ → ℕ) → IsRank (first_gate_net c) c.gates rank → IsCircuit c

-- The parts say a circuit, and the order, the levels and the loads are its own.
pub record IsBuilt (a : Inside) : Type 0 where
  pub circuit : IsCircuit (netlist_of a.parts)
  pub few_outputs : length a.parts.outputs.items ≤ max_nets
  pub order : IsOrder (netlist_of a.parts) a.order.items
  pub level_order : IsLevelOrder (netlist_of a.parts) a.order.items
  pub level_count : length a.levels.items ≡ length a.parts.gates
  pub levels : (g : ℕ) → g < length a.parts.gates → get_or a.levels.items g 0
      ≡ level_of (netlist_of a.parts) g
  pub load_count : length a.loads.items ≡ net_count (netlist_of a.parts)
  pub loads : (x : ℕ) → x < net_count (netlist_of a.parts)
      → get_or a.loads.items x 0 ≡ loads_of (netlist_of a.parts) x
