-- The circuit of a netlist by names: the net of a name is the place of the name among those that are driven.
use Rattle.std.specs.Prelude.{List, ◌<◌, length, map}
use Rattle.std.specs.List.{position_or_len}
use Rattle.std.specs.Str.{bytes_eq}
use Rattle.ht_net.specs.declared.names.NameId.{NameId}
use Rattle.ht_net.specs.declared.net.NetId.{NetId}
use Rattle.ht_net.specs.Circuit.Netlist.{Netlist, Gate}
use Rattle.ht_net.specs.Build.Named.{Name, NamedDff, NamedGate, NamedNetlist}
use Rattle.ht_net.specs.Build.Draft.{Draft, net_names, IsDriven, IsName}

-- the net of a name
abbrev pub net_of : NamedNetlist → Name → NetId
net_of n name = record { 0 = position_or_len (λ other. bytes_eq other name) (net_names n) }

-- the gates, over nets
abbrev pub circuit_gates : NamedNetlist → List Gate
circuit_gates n = map (λ (g : NamedGate). record { kind = g.kind; args = map (net_of n) g.args })
    n.gates

-- the circuit
abbrev pub circuit_of : NamedNetlist → Netlist
circuit_of n = record {
  inputs = length n.inputs;
  dffs = map (λ (f : NamedDff). net_of n f.data_pin) n.dffs;
  gates = circuit_gates n;
  outputs = map (net_of n) n.outputs;
  names = net_names n;
}

-- each name that was mentioned has a driver
abbrev pub AllDriven : Draft → Type 0
AllDriven d = (id : NameId) → IsName d id → IsDriven d id

-- the least name that nothing drives
abbrev pub IsLeastUndriven : Draft → NameId → Type 0
IsLeastUndriven d id = IsName d id × (¬ IsDriven d id) × ((n : NameId) → n.0 < id.0 → IsDriven d n)
