-- A circuit by the names of its nets: what its lines say.
use Rattle.std.specs.Prelude.{ℕ, List, [], ◌∷◌, ◌+◌, map, take, get_or}
use Rattle.ht_tern.specs.declared.gate.Kind.{Kind}
use Rattle.ht_net.specs.declared.net.NetId.{NetId}
use Rattle.ht_net.specs.Circuit.Netlist.{Netlist, Gate, first_gate_net}

-- the bytes of a name
abbrev pub Name : Type 0
Name = List ℕ

-- a flip-flop by names: the net that it drives, and the one that it reads
pub record NamedDff : Type 0 where
  pub out : Name
  -- the net at its data pin
  pub data_pin : Name

-- a gate by names: its kind, the net that it drives, and those that it reads, in order
pub record NamedGate : Type 0 where
  pub kind : Kind
  pub out : Name
  pub args : List Name

-- inputs, outputs, flip-flops and gates, each in the order of its lines
pub record NamedNetlist : Type 0 where
  pub inputs : List Name
  pub outputs : List Name
  pub dffs : List NamedDff
  pub gates : List NamedGate

-- the name of a net
abbrev pub name_of : Netlist → NetId → Name
name_of c net = get_or c.names net.0 []

-- the flip-flops and the gates from net x on
abbrev pub named_dffs : Netlist → ℕ → List NetId → List NamedDff
named_dffs c x [] = []
named_dffs c x (d ∷ dffs) = record { out = get_or c.names x []; data_pin = name_of c d }
    ∷ named_dffs c (x + 1) dffs

-- gates by names, the first of which drives net x
abbrev pub named_gates : Netlist → ℕ → List Gate → List NamedGate
named_gates c x [] = []
named_gates c x (g ∷ gates) = record {
  kind = g.kind;
  out = get_or c.names x [];
  args = map (name_of c) g.args;
}
    ∷ named_gates c (x + 1) gates

-- a circuit by the names of its nets
abbrev pub named_of : Netlist → NamedNetlist
named_of c = record {
  inputs = take c.inputs c.names;
  outputs = map (name_of c) c.outputs;
  dffs = named_dffs c c.inputs c.dffs;
  gates = named_gates c (first_gate_net c) c.gates;
}
