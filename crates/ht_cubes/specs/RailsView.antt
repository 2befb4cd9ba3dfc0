-- The rails of a fault's machines as contracts see them.
use Rattle.std.specs.Prelude.{◌≡◌, List, Bool, length}
use Rattle.ht_net.specs.declared.fault.Fault.{Fault}
use Rattle.ht_net.specs.Circuit.Netlist.{Netlist, net_count}
use Rattle.ht_cubes.specs.Rails.{IsCone}
use Rattle.ht_cubes.specs.Cones.{marked}

-- A circuit, a fault of it, and a mark for each net, by which the two machines are told apart.
pub record RailsView : Type 0 where
  pub circuit : Netlist
  pub fault : Fault
  pub marks : List Bool

-- There is a mark for each net, and the marked nets are the cone of the fault.
pub record AreConeMarks (c : Netlist) (fault : Fault) (marks : List Bool) : Type 0 where
  pub long : length marks ≡ net_count c
  pub is_cone : IsCone c fault (marked marks)
