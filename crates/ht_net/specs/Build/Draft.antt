-- A netlist in the making, by names.
use Rattle.std.specs.Prelude.{ℕ, List, [], ◌++◌, ◌+◌, ◌<◌, ◌≤◌, length, map, get_or}
use Rattle.std.specs.List.{All, Contains, sum_by}
use Rattle.ht_tern.specs.Gate.{HasArity}
use Rattle.ht_net.specs.declared.names.NameId.{NameId}
use Rattle.ht_net.specs.Circuit.Lists.{AllDiffer}
use Rattle.ht_net.specs.Build.Named.{Name, NamedDff, NamedGate, NamedNetlist}
use Rattle.ht_net.specs.Circuit.Netlist.{max_nets, max_pins, max_inputs, max_dffs, max_arguments}

-- names in the order of first mention; inputs, outputs, flip-flops and gates in the order in which they came
pub record Draft : Type 0 where
  pub names : List Name
  pub inputs : List Name
  pub outputs : List Name
  pub dffs : List NamedDff
  pub gates : List NamedGate

-- what it says, apart from the order of its names
abbrev pub named_draft : Draft → NamedNetlist
named_draft d = record { inputs = d.inputs; outputs = d.outputs; dffs = d.dffs; gates = d.gates }

-- the name of a number
abbrev pub draft_name : Draft → NameId → Name
draft_name d id = get_or d.names id.0 []

-- the names that flip-flops drive
abbrev pub dff_outs : List NamedDff → List Name
dff_outs dffs = map (λ (f : NamedDff). f.out) dffs

-- the names that gates drive
abbrev pub gate_outs : List NamedGate → List Name
gate_outs gates = map (λ (g : NamedGate). g.out) gates

-- the names that have a driver, in the order of their nets
abbrev pub net_names : NamedNetlist → List Name
net_names n = (n.inputs ++ dff_outs n.dffs) ++ gate_outs n.gates

-- data pins of flip-flops and pins of gates
abbrev pub named_pins : NamedNetlist → ℕ
named_pins n = length n.dffs + sum_by (λ (g : NamedGate). length g.args) n.gates

-- the names of a draft that have a driver, in the order of their nets
abbrev pub driven_names : Draft → List Name
driven_names d = net_names (named_draft d)

-- the pins of a draft's gates and flip-flops
abbrev pub draft_pins : Draft → ℕ
draft_pins d = named_pins (named_draft d)

-- the number of a name that was mentioned
abbrev pub IsName : Draft → NameId → Type 0
IsName d id = id.0 < length d.names

-- an input, a flip-flop or a gate drives the name of this number
abbrev pub IsDriven : Draft → NameId → Type 0
IsDriven d id = Contains (driven_names d) (draft_name d id)

-- What every draft keeps: names, outputs and driven names differ, each name that is used is there, gates have as many
-- arguments as their kind may have, and the limits hold.
pub record IsDraft (d : Draft) : Type 0 where
  pub few_names : length d.names ≤ max_nets
  pub few_inputs : length d.inputs ≤ max_inputs
  pub few_dffs : length d.dffs ≤ max_dffs
  pub few_pins : draft_pins d ≤ max_pins
  pub names_differ : AllDiffer d.names
  pub outputs_differ : AllDiffer d.outputs
  pub drivers_differ : AllDiffer (driven_names d)
  pub drivers_known : All (Contains d.names) (driven_names d)
  pub outputs_known : All (Contains d.names) d.outputs
  pub data_known : All (λ (f : NamedDff). Contains d.names f.data_pin) d.dffs
  pub args_known : All (λ (g : NamedGate). All (Contains d.names) g.args) d.gates
  pub arities : All (λ (g : NamedGate). HasArity g.kind (length g.args)) d.gates
  pub few_args : All (λ (g : NamedGate). length g.args ≤ max_arguments) d.gates
