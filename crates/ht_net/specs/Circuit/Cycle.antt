-- Cycles of gates.
use Rattle.std.specs.Prelude.{◌≡◌, ℕ, List, ◌+◌, ◌<◌, length, get_or}
use Rattle.ht_net.specs.Circuit.Lists.{IsCycle}
use Rattle.ht_net.specs.Circuit.Netlist.{Gate, no_net, args_of}
use Rattle.ht_net.specs.declared.levels.LevelError.{LevelError}
use Rattle.ht_net.specs.declared.levels.LevelError.TheVariants.{Cycle, NoMemory}

-- gate g reads the net of gate h
pub record ReadsGate (first : ℕ) (gates : List Gate) (g h : ℕ) : Type 0 where
  pub pin : ℕ
  pub is_pin : pin < length (args_of gates g)
  pub reads : (get_or (args_of gates g) pin no_net).0 ≡ first + h

-- each gate reads the one before it, and the first reads the last
pub record IsGateCycle (first : ℕ) (gates : List Gate) (list : List ℕ) : Type 0 where
  pub known : (k : ℕ) → k < length list → get_or list k 0 < length gates
  pub cycle : IsCycle (λ h g. ReadsGate first gates g h) list

-- why gates have no levels
abbrev pub IsLevelError : ℕ → List Gate → LevelError → Type 0
IsLevelError first gates (Cycle cycle) = IsGateCycle first gates cycle.items
IsLevelError first gates NoMemory = Unit {0}
