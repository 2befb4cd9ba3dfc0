-- When each call of a builder is refused, and when it isn't. Want of memory may come at any call.
use Rattle.std.specs.Prelude.{◌≡◌, ℕ, List, ◌+◌, ◌<◌, ◌≤◌, length}
use Rattle.ht_net.specs.declared.names.NameId.{NameId}
use Rattle.ht_net.specs.declared.error.Limit.TheVariants.{Nets, Pins, Inputs, Dffs}
use Rattle.ht_net.specs.declared.error.NetError.{NetError}
use Rattle.ht_net.specs.declared.error.NetError.TheVariants.{Twice, TooMany, NoMemory}
use Rattle.ht_net.specs.Build.Names.{IsNewName}
use Rattle.ht_net.specs.Build.Draft.{Draft, IsDriven, draft_pins}
use Rattle.ht_net.specs.Circuit.Netlist.{max_nets, max_pins, max_inputs, max_dffs}

-- why a draft refuses a name: it is new, and there are as many nets as there may be
abbrev pub RefusesName : Draft → List ℕ → NetError → Type 0
RefusesName d name (TooMany Nets) = IsNewName d.names name × (length d.names ≡ max_nets)
RefusesName d name NoMemory = Unit {0}
RefusesName d name _ = ⊥

-- why a draft refuses an input: something drives the name already, or there are too many inputs
abbrev pub RefusesInput : Draft → NameId → NetError → Type 0
RefusesInput d name (Twice twice) = (twice ≡ name) × IsDriven d name
RefusesInput d name (TooMany Inputs) = (¬ IsDriven d name) × (length d.inputs ≡ max_inputs)
RefusesInput d name NoMemory = Unit {0}
RefusesInput d name _ = ⊥

-- a draft takes the name as an input: nothing drives it, and there is room
abbrev pub AcceptsInput : Draft → NameId → Type 0
AcceptsInput d name = (¬ IsDriven d name) × (length d.inputs < max_inputs)

-- why a draft refuses an output: only where memory runs out
abbrev pub RefusesOutput : NetError → Type 0
RefusesOutput NoMemory = Unit {0}
RefusesOutput _ = ⊥

-- why a draft refuses a flip-flop: something drives its name already, or there are too many pins or flip-flops
abbrev pub RefusesDff : Draft → NameId → NetError → Type 0
RefusesDff d out (Twice twice) = (twice ≡ out) × IsDriven d out
RefusesDff d out (TooMany Pins) = (¬ IsDriven d out) × (draft_pins d ≡ max_pins)
RefusesDff d out (TooMany Dffs) = (¬ IsDriven d out) × (draft_pins d < max_pins)
    × (length d.dffs ≡ max_dffs)
RefusesDff d out NoMemory = Unit {0}
RefusesDff d out _ = ⊥

-- a draft takes a flip-flop that drives the name: nothing drives it, and there is room
abbrev pub AcceptsDff : Draft → NameId → Type 0
AcceptsDff d out = (¬ IsDriven d out) × (draft_pins d < max_pins) × (length d.dffs < max_dffs)

-- a gate with so many arguments
abbrev pub RefusesGate : Draft → NameId → ℕ → NetError → Type 0
RefusesGate d out arity (Twice twice) = (twice ≡ out) × IsDriven d out
RefusesGate d out arity (TooMany Pins) = (¬ IsDriven d out) × (max_pins < draft_pins d + arity)
RefusesGate d out arity NoMemory = Unit {0}
RefusesGate d out arity _ = ⊥

-- a draft takes a gate of so many pins that drives the name: nothing drives it, and there is room
abbrev pub AcceptsGate : Draft → NameId → ℕ → Type 0
AcceptsGate d out arity = (¬ IsDriven d out) × (draft_pins d + arity ≤ max_pins)
