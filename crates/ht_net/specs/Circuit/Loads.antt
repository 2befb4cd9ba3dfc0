-- What a count of loads needs: that it reads nets which are there.
use Rattle.std.specs.Prelude.{ℕ, List, ◌<◌, length, get_or}
use Rattle.std.specs.List.{sum_by}
use Rattle.ht_net.specs.declared.net.NetId.{NetId}
use Rattle.ht_net.specs.Circuit.Netlist.{Gate, no_net, no_gate}

-- each net of the list is one of the first n
abbrev pub AreBelow : ℕ → List NetId → Type 0
AreBelow n nets = (i : ℕ) → i < length nets → (get_or nets i no_net).0 < n

-- Each pin of each gate reads a net below n.
abbrev pub ArgsAreBelow : ℕ → List Gate → Type 0
ArgsAreBelow n gates = (g : ℕ) → g < length gates → AreBelow n (get_or gates g no_gate).args

-- how many pins the gates have
abbrev pub pins_of : List Gate → ℕ
pins_of gates = sum_by (λ (g : Gate). length g.args) gates
