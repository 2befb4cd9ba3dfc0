-- Sources and gates in the order in which they get their values, and the rank of each.
use Rattle.std.specs.Prelude.{◌≡◌, ◌<◌, ◌+◌, ℕ, List, length, get_or}
use Rattle.ht_net.specs.Circuit.Netlist.{Netlist, first_gate_net, gate_at, arg_at}

-- Gate g reads number m at a pin. The numbers count the last so many sources, and then the gates.
pub record ReadsNumber (c : Netlist) (sources g m : ℕ) : Type 0 where
  pub pin : ℕ
  pub is_gate : g < length c.gates
  pub is_pin : pin < length (gate_at c g).args
  pub reads : arg_at c g pin + sources ≡ first_gate_net c + m

-- an order of so many sources and then of all gates, with the rank of each, where a gate comes after what it reads
pub record AreRanked (c : Netlist) (sources : ℕ) (order ranks : List ℕ) : Type 0 where
  pub order_count : length order ≡ sources + length c.gates
  pub rank_count : length ranks ≡ sources + length c.gates
  pub known : (r : ℕ) → r < sources + length c.gates → get_or order r 0 < sources + length c.gates
  pub small : (x : ℕ) → x < sources + length c.gates → get_or ranks x 0 < sources + length c.gates
  pub back : (x : ℕ) → x < sources + length c.gates → get_or order (get_or ranks x 0) 0 ≡ x
  pub first : (x : ℕ) → x < sources → get_or ranks x 0 ≡ x
  pub forth : (r : ℕ) → r < sources + length c.gates → get_or ranks (get_or order r 0) 0 ≡ r
  pub rises : (g m : ℕ) → ReadsNumber c sources g m → get_or ranks m 0
      < get_or ranks (sources + g) 0
