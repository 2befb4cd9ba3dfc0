-- The values of a net in the machines of a group.
use Rattle.std.specs.Prelude.{◌≡◌, ◌<◌, ℕ, List, Some, None, get_or}
use Rattle.ht_tern.specs.declared.tern.Tern.{Tern}
use Rattle.ht_net.specs.declared.net.NetId.{NetId}
use Rattle.ht_net.specs.Circuit.Netlist.{Netlist, net_count, no_net}
use Rattle.ht_net.specs.Frames.Frame.{net_value}
use Rattle.ht_net.specs.Frames.Faults.{tern_rules}
use Rattle.ht_group.specs.GroupView.{FaultyMachine, GroupView}

-- in the good machine, and in a faulty one
abbrev pub good_value : GroupView → ℕ → Tern
good_value g x = net_value g.circuit (tern_rules None) g.vector g.latches x

-- what net x of a faulty machine holds in the frame
abbrev pub faulty_value : GroupView → FaultyMachine → ℕ → Tern
faulty_value g m x = net_value g.circuit (tern_rules (Some m.fault)) g.vector m.latches x

-- this net of the circuit stands at an index of a list
pub record IsNetAt (c : Netlist) (nets : List NetId) (i : ℕ) (x : NetId) : Type 0 where
  pub net : x ≡ get_or nets i no_net
  pub known : x.0 < net_count c
