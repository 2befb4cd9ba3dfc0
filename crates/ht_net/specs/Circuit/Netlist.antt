-- A circuit as contracts see it, and what makes it well formed.
use Rattle.std.specs.Prelude.{◌≡◌, ℕ, List, [], ◌+◌, ◌-◌, ◌<◌, ◌≤◌, ◌⊎◌, length, get_or}
use Rattle.std.specs.List.{sum_by}
use Rattle.ht_tern.specs.declared.gate.Kind.{Kind}
use Rattle.ht_tern.specs.declared.gate.Kind.TheVariants.{Buf}
use Rattle.ht_tern.specs.Gate.{HasArity}
use Rattle.ht_net.specs.declared.net.NetId.{NetId}
use Rattle.ht_net.specs.Circuit.Lists.{AllDiffer, IsEach}

-- a gate: its kind, and the nets that its pins read, in the order of the netlist
pub record Gate : Type 0 where
  pub kind : Kind
  pub args : List NetId

-- The nets are numbered from 0: inputs, then flip-flop outputs, then gate outputs. So each net has exactly one driver.
pub record Netlist : Type 0 where
  pub inputs : ℕ
  -- the net at the data pin of each flip-flop
  pub dffs : List NetId
  pub gates : List Gate
  pub outputs : List NetId
  -- the name of each net
  pub names : List (List ℕ)

-- the number of the net that the first gate drives
abbrev pub first_gate_net : Netlist → ℕ
first_gate_net c = c.inputs + length c.dffs

-- how many nets there are: the inputs, the flip-flops and the gates drive one each
abbrev pub net_count : Netlist → ℕ
net_count c = first_gate_net c + length c.gates

-- arguments of gates and data pins of flip-flops
abbrev pub pin_count : Netlist → ℕ
pin_count c = length c.dffs + sum_by (λ (g : Gate). length g.args) c.gates

-- what stands for a net where a list has none at an index
abbrev pub no_net : NetId
no_net = record { 0 = 0 }

-- what stands for a gate where a list has none at an index
abbrev pub no_gate : Gate
no_gate = record { kind = Buf; args = [] }

-- gate g, which counts from 0
abbrev pub gate_at : Netlist → ℕ → Gate
gate_at c g = get_or c.gates g no_gate

-- the net at pin i of gate g
abbrev pub arg_at : Netlist → ℕ → ℕ → ℕ
arg_at c g i = (get_or (gate_at c g).args i no_net).0

-- the arguments of gate g of a list
abbrev pub args_of : List Gate → ℕ → List NetId
args_of gates g = (get_or gates g no_gate).args

-- a number for each gate that is greater than that of every gate that drives one of its arguments, where the gates'
-- nets are numbered from `first`
pub record IsRank (first : ℕ) (gates : List Gate) (rank : ℕ → ℕ) : Type 0 where
  pub falls : (g i : ℕ) → g < length gates → i < length (args_of gates g)
      → first ≤ (get_or (args_of gates g) i no_net).0
      → rank ((get_or (args_of gates g) i no_net).0 - first) < rank g

-- the most nets, pins, inputs and flip-flops that a circuit may have, and the most arguments that a gate may have
abbrev pub max_nets : ℕ
max_nets = 65535

-- the most pins of gates and flip-flops
abbrev pub max_pins : ℕ
max_pins = 262144

-- the most inputs
abbrev pub max_inputs : ℕ
max_inputs = 4096

-- the most flip-flops
abbrev pub max_dffs : ℕ
max_dffs = 16384

-- the most pins of one gate
abbrev pub max_arguments : ℕ
max_arguments = 255

-- A well-formed circuit: what is read is there, names differ, no net is an output twice, the gates have a rank, and the
-- limits are kept.
pub record IsCircuit (c : Netlist) : Type 0 where
  pub few_nets : net_count c ≤ max_nets
  pub few_pins : pin_count c ≤ max_pins
  pub few_inputs : c.inputs ≤ max_inputs
  pub few_dffs : length c.dffs ≤ max_dffs
  pub arities : (g : ℕ) → g < length c.gates
      → HasArity (gate_at c g).kind (length (gate_at c g).args)
  pub few_args : (g : ℕ) → g < length c.gates → length (gate_at c g).args ≤ max_arguments
  pub known : (g i : ℕ) → g < length c.gates → i < length (gate_at c g).args
      → arg_at c g i < net_count c
  pub data_known : (j : ℕ) → j < length c.dffs → (get_or c.dffs j no_net).0 < net_count c
  pub outputs_known : (o : ℕ) → o < length c.outputs → (get_or c.outputs o no_net).0 < net_count c
  pub outputs_differ : AllDiffer c.outputs
  pub named : length c.names ≡ net_count c
  pub names_differ : AllDiffer c.names
  pub ranked : (rank : ℕ → ℕ) × IsRank (first_gate_net c) c.gates rank

-- a net that has its value before the gate at place k of an order is evaluated
abbrev pub IsReady : Netlist → List ℕ → ℕ → ℕ → Type 0
IsReady c order k x = (x < first_gate_net c)
    ⊎ ((j : ℕ) × (j < k) × (x ≡ first_gate_net c + get_or order j 0))

-- Each gate stands in the order once, after the gates that drive its arguments.
pub record IsOrder (c : Netlist) (order : List ℕ) : Type 0 where
  pub each : IsEach (length c.gates) order
  pub earlier : (k i : ℕ) → k < length order → i < length (gate_at c (get_or order k 0)).args
      → IsReady c order k (arg_at c (get_or order k 0) i)
