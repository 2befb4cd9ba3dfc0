-- The levels of gates: 1 more than the highest level among the arguments, where an input or a flip-flop counts as 0.
use Rattle.std.specs.Prelude.{◌≡◌, ℕ, List, [], ◌∷◌, ◌-◌, ◌+◌, ◌<◌, ◌≤◌, suc, max, ltb, cond, length, get_or}
use Rattle.ht_net.specs.declared.net.NetId.{NetId}
use Rattle.ht_net.specs.Circuit.Netlist.{Gate, no_net, args_of}

-- the level of the gate that drives a net, or 0
abbrev pub level_among : ℕ → (ℕ → ℕ) → NetId → ℕ
level_among first level x = cond (ltb x.0 first) 0 (level (x.0 - first))

-- the highest level of a gate among these nets, or 0
abbrev pub highest_among : ℕ → (ℕ → ℕ) → List NetId → ℕ
highest_among first level [] = 0
highest_among first level (a ∷ args) = max (level_among first level a)
    (highest_among first level args)

-- the same where the levels stand in a list
abbrev pub net_level : ℕ → List ℕ → NetId → ℕ
net_level first levels x = level_among first (λ g. get_or levels g 0) x

-- the highest of the levels in a table among some nets, 0 where all are sources
abbrev pub highest_level : ℕ → List ℕ → List NetId → ℕ
highest_level first levels args = highest_among first (λ g. get_or levels g 0) args

-- each net that the gates read is there
pub record AreKnown (first : ℕ) (gates : List Gate) : Type 0 where
  pub known : (g i : ℕ) → g < length gates → i < length (args_of gates g)
      → (get_or (args_of gates g) i no_net).0 < first + length gates

-- A table has the level of each gate: one above the highest that its pins read.
pub record IsLevelled (first : ℕ) (gates : List Gate) (levels : List ℕ) : Type 0 where
  pub count : length levels ≡ length gates
  pub exact : (g : ℕ) → g < length gates → get_or levels g 0
      ≡ suc (highest_level first levels (args_of gates g))
  pub bounded : (g : ℕ) → g < length gates → get_or levels g 0 ≤ length gates

-- the levels do not fall along the list
abbrev pub IsRising : List ℕ → List ℕ → Type 0
IsRising levels order = (j k : ℕ) → j ≤ k → k < length order
    → get_or levels (get_or order j 0) 0 ≤ get_or levels (get_or order k 0) 0
