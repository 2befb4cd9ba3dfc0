-- How a builder's fields, which hold numbers of names, stand for its draft.
use Rattle.std.specs.Prelude.{◌≡◌, ℕ, List, [], ◌++◌, ◌<◌, ◌≤◌, Bool, true, false, length, map, get_or}
use Rattle.std.specs.List.{All, Contains}
use Rattle.ht_tern.specs.Gate.{HasArity}
use Rattle.ht_net.specs.declared.names.NameId.{NameId}
use Rattle.ht_net.specs.declared.draft.DraftDff.{DraftDff}
use Rattle.ht_net.specs.declared.builder.Builder.TheInside.{Inside}
use Rattle.ht_net.specs.Circuit.Lists.{AllDiffer}
use Rattle.ht_net.specs.Build.Named.{Name, NamedDff, NamedGate}
use Rattle.ht_net.specs.Circuit.Netlist.{max_nets, max_pins, max_inputs, max_dffs, max_arguments}
use Rattle.ht_net.specs.Build.PartOf.{DraftGate}
use Rattle.ht_net.specs.Build.Draft.{Draft, draft_pins}

-- the name of a number
abbrev pub named_at : List Name → NameId → Name
named_at names id = get_or names id.0 []

-- a flip-flop by the names of its numbers
abbrev pub dff_by : List Name → DraftDff → NamedDff
dff_by names f = record { out = named_at names f.out; data_pin = named_at names f.data_pin }

-- a gate by the names of its numbers
abbrev pub gate_by : List Name → DraftGate → NamedGate
gate_by names g = record {
  kind = g.kind;
  out = named_at names g.out;
  args = map (named_at names) g.args;
}

-- what the fields hold
pub record Fields : Type 0 where
  pub names : List Name
  -- for each name whether it is driven
  pub driven : List Bool
  pub inputs : List NameId
  pub outputs : List NameId
  pub dffs : List DraftDff
  pub gates : List DraftGate
  pub pins : ℕ

-- the fields that count, without the room that they take
abbrev pub fields_of : Inside → Fields
fields_of a = record {
  names = a.names;
  driven = a.driven.items;
  inputs = a.inputs.items;
  outputs = a.outputs.keys;
  dffs = a.dffs.items;
  gates = a.gates.items;
  pins = a.pins;
}

-- the draft that the fields say, with names in place of numbers
abbrev pub draft_by : Fields → Draft
draft_by a = record {
  names = a.names;
  inputs = map (named_at a.names) a.inputs;
  outputs = map (named_at a.names) a.outputs;
  dffs = map (dff_by a.names) a.dffs;
  gates = map (gate_by a.names) a.gates;
}

-- the draft of a builder
abbrev pub draft_of : Inside → Draft
draft_of a = draft_by (fields_of a)

-- the numbers of the names that flip-flops drive
abbrev pub dff_ids : List DraftDff → List NameId
dff_ids dffs = map (λ (f : DraftDff). f.out) dffs

-- the numbers of the names that gates drive
abbrev pub gate_ids : List DraftGate → List NameId
gate_ids gates = map (λ (g : DraftGate). g.out) gates

-- the numbers of the driven names, in the order of their nets
abbrev pub driven_ids : Fields → List NameId
driven_ids a = (a.inputs ++ dff_ids a.dffs) ++ gate_ids a.gates

-- different numbers, of which a list of marks has each and no other
pub record AreMarked (ids : List NameId) (marks : List Bool) : Type 0 where
  pub differ : AllDiffer ids
  pub forth : All (λ (id : NameId). get_or marks id.0 false ≡ true) ids
  pub back : (id : NameId) → get_or marks id.0 false ≡ true → Contains ids id

-- numbers of the first n names
abbrev pub AreNumbers : ℕ → List NameId → Type 0
AreNumbers n ids = All (λ (id : NameId). id.0 < n) ids

-- a flip-flop over the first n names
abbrev pub IsDffBelow : ℕ → DraftDff → Type 0
IsDffBelow n f = (f.out.0 < n) × (f.data_pin.0 < n)

-- a gate over the first n names
abbrev pub IsGateBelow : ℕ → DraftGate → Type 0
IsGateBelow n g = (g.out.0 < n) × AreNumbers n g.args

-- What the fields keep: names and outputs differ, each number is of a name, what is driven is marked, gates have as
-- many arguments as their kind may have, and the limits hold.
pub record AreKept (a : Fields) : Type 0 where
  pub few_names : length a.names ≤ max_nets
  pub few_inputs : length a.inputs ≤ max_inputs
  pub few_dffs : length a.dffs ≤ max_dffs
  pub pins : a.pins ≡ draft_pins (draft_by a)
  pub few_pins : a.pins ≤ max_pins
  pub names_differ : AllDiffer a.names
  pub outputs_differ : AllDiffer a.outputs
  pub inputs_known : AreNumbers (length a.names) a.inputs
  pub outputs_known : AreNumbers (length a.names) a.outputs
  pub dffs_known : All (IsDffBelow (length a.names)) a.dffs
  pub gates_known : All (IsGateBelow (length a.names)) a.gates
  pub arities : All (λ (g : DraftGate). HasArity g.kind (length g.args)) a.gates
  pub few_args : All (λ (g : DraftGate). length g.args ≤ max_arguments) a.gates
  pub count : length a.driven ≡ length a.names
  pub marked : AreMarked (driven_ids a) a.driven

-- what a builder keeps
abbrev pub IsKept : Inside → Type 0
IsKept a = AreKept (fields_of a)
