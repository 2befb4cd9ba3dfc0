-- A table of nets: the net of each name by its number.
use Rattle.std.specs.Prelude.{◌≡◌, ℕ, List, ◌<◌, length, map, get_or}
use Rattle.ht_net.specs.declared.names.NameId.{NameId}
use Rattle.ht_net.specs.declared.net.NetId.{NetId}
use Rattle.ht_net.specs.declared.draft.DraftDff.{DraftDff}
use Rattle.ht_net.specs.Circuit.Netlist.{Gate, no_net}
use Rattle.ht_net.specs.Build.PartOf.{DraftGate}

-- the net that a table gives a name
abbrev pub net_in : List NetId → NameId → NetId
net_in table id = get_or table id.0 no_net

-- the net that a table gives the data pin of a flip-flop
abbrev pub data_net_in : List NetId → DraftDff → NetId
data_net_in table f = net_in table f.data_pin

-- a gate of a draft with the nets that a table gives its names
abbrev pub gate_in : List NetId → DraftGate → Gate
gate_in table g = record { kind = g.kind; args = map (net_in table) g.args }

-- each driven name has its place among them as its net
pub record IsNetTable (count : ℕ) (driven : List NameId) (table : List NetId) : Type 0 where
  pub is_long : length table ≡ count
  pub places : (k : ℕ) (d : NameId) → k < length driven → (net_in table (get_or driven k d)).0 ≡ k
