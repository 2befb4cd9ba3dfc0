-- The levels of gates and the loads of nets.
use Rattle.std.specs.Prelude.{◌≤◌, ◌<◌, ℕ, suc, List, [], ◌∷◌, ◌+◌, max, length, get_or, eqb}
use Rattle.std.specs.List.{sum_by, count_by}
use Rattle.ht_net.specs.declared.net.NetId.{NetId}
use Rattle.ht_net.specs.Circuit.Netlist.{Netlist, Gate, first_gate_net}
use Rattle.ht_net.specs.Frames.Frame.{Rules, net_value}
use Rattle.ht_net.specs.Circuit.GateLevels.{level_among, highest_among}

-- the greatest number of a list, 0 of an empty one
abbrev pub highest : List ℕ → ℕ
highest [] = 0
highest (n ∷ ns) = max n (highest ns)

-- Numbers as values: an input or a latch is 0, and a gate is 1 more than the highest of its arguments.
abbrev pub level_rules : Rules ℕ
level_rules = record {
  blank = 0;
  gate = λ kind ns. suc (highest ns);
  stem = λ x n. n;
  pin = λ g i n. n;
  data_pin = λ j n. n;
}

-- the level of gate g
abbrev pub level_of : Netlist → ℕ → ℕ
level_of c g = net_value c level_rules [] [] (first_gate_net c + g)

-- the level of the gate that drives a net, or 0, and the highest of these
abbrev pub level_below : Netlist → NetId → ℕ
level_below c a = level_among (first_gate_net c) (level_of c) a

-- the highest level among the nets that some pins read
abbrev pub highest_below : Netlist → List NetId → ℕ
highest_below c args = highest_among (first_gate_net c) (level_of c) args

-- an order in which levels don't fall
pub record IsLevelOrder (c : Netlist) (order : List ℕ) : Type 0 where
  pub rises : (j k : ℕ) → j ≤ k → k < length order → level_of c (get_or order j 0)
      ≤ level_of c (get_or order k 0)

-- how often a list has net x
abbrev pub times : ℕ → List NetId → ℕ
times x nets = count_by (λ (n : NetId). eqb n.0 x) nets

-- the pins of gates and the data pins that net x drives, and one more if it is an output
abbrev pub loads_among : List Gate → List NetId → List NetId → ℕ → ℕ
loads_among gates dffs outputs x = sum_by (λ (g : Gate). times x g.args) gates
    + (times x dffs + times x outputs)

-- how many pins and outputs read net x
abbrev pub loads_of : Netlist → ℕ → ℕ
loads_of c x = loads_among c.gates c.dffs c.outputs x
