-- The order in which nets get their values, and what reads each net.
use Rattle.std.specs.Prelude.{◌≡◌, ◌<◌, ◌≤◌, ◌-◌, ℕ, List, [], length, get_or}
use Rattle.std.specs.List.{Contains}
use Rattle.ht_net.specs.Circuit.Netlist.{Netlist, first_gate_net, net_count, gate_at, arg_at, IsCircuit}
use Rattle.ht_events.specs.Ranks.{AreRanked}
use Rattle.ht_events.specs.Items.{driven_net}
use Rattle.ht_events.specs.declared.schedule.Schedule.{Schedule}

-- net y is driven by a gate that reads net x
pub record ReadsFrom (c : Netlist) (y x : ℕ) : Type 0 where
  pub pin : ℕ
  pub is_gate : first_gate_net c ≤ y
  pub known : y < net_count c
  pub is_pin : pin < length (gate_at c (y - first_gate_net c)).args
  pub reads : arg_at c (y - first_gate_net c) pin ≡ x

-- the ranks of the nets that the gates among these items of a frame drive
pub record AreGateRanks (c : Netlist) (ranks items row : List ℕ) : Type 0 where
  pub complete : (l : ℕ) → Contains items l → length c.dffs ≤ l
      → Contains row (get_or ranks (driven_net c l) 0)
  pub sound : (r : ℕ) → Contains row r → (l : ℕ) × Contains items l × (length c.dffs ≤ l)
      × (r ≡ get_or ranks (driven_net c l) 0)

-- for each net the ranks of the nets whose gates read it
pub record AreReaders (c : Netlist) (ranks : List ℕ) (readers : List (List ℕ)) : Type 0 where
  pub count : length readers ≡ net_count c
  pub complete : (y x : ℕ) → ReadsFrom c y x → Contains (get_or readers x []) (get_or ranks y 0)
  pub later : (x r : ℕ) → Contains (get_or readers x []) r → get_or ranks x 0 < r
  pub within : (x r : ℕ) → Contains (get_or readers x []) r → r < net_count c

-- a schedule is its circuit's
pub record IsSchedule (c : Netlist) (s : Schedule) : Type 0 where
  pub circuit : IsCircuit c
  -- inputs and flip-flops first, and each gate after what it reads
  pub ranks : AreRanked c (first_gate_net c) s.order.items s.ranks.items
  pub readers : AreReaders c s.ranks.items s.readers
