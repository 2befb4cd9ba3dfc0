-- A table that has, for each line, the lanes whose fault stands there.
use Rattle.std.specs.Prelude.{◌≡◌, ◌<◌, ◌≤◌, ◌+◌, ◌==◌, ℕ, List, Bool, false, length, get_or, Option, Some, None}
use Rattle.std.specs.List.{slice_get}
use Rattle.ht_items.specs.Bits.{is_set}
use Rattle.ht_net.specs.declared.fault.Site.{Site}
use Rattle.ht_net.specs.declared.fault.Site.TheVariants.{Stem, DffPin, GatePin}
use Rattle.ht_net.specs.declared.fault.Fault.{Fault}
use Rattle.ht_net.specs.Circuit.Netlist.{Netlist, first_gate_net, net_count, IsCircuit}
use Rattle.ht_frame.specs.StuckPins.{is_at_gate}
use Rattle.ht_group.specs.GroupView.{HasSite, lane_count}
use Rattle.ht_group.specs.declared.stuck_lines.StuckLines.{StuckLines}

-- The slots of a table: one for each net, its stem; then one for each gate, for all its pins; then one for each
-- flip-flop, its data pin.
abbrev pub gate_slot : Netlist → ℕ → ℕ
gate_slot c g = net_count c + g

-- the slot of flip-flop j's data pin in a table of stuck lines: after those of the nets and the gates
abbrev pub dff_slot : Netlist → ℕ → ℕ
dff_slot c j = net_count c + length c.gates + j

-- how many slots a table of stuck lines has
abbrev pub slot_count : Netlist → ℕ
slot_count c = net_count c + length c.gates + length c.dffs

-- the slot of a site
abbrev pub slot_of : Netlist → Site → ℕ
slot_of c (Stem x) = x.0
slot_of c (GatePin g i) = gate_slot c g
slot_of c (DffPin j) = dff_slot c j

-- there is a fault, and its slot is this
abbrev pub is_at_slot : Netlist → Option Fault → ℕ → Bool
is_at_slot c None s = false
is_at_slot c (Some fault) s = s == slot_of c fault.site

-- whether a site is pin i of some gate
abbrev pub is_pin_number : Site → ℕ → Bool
is_pin_number (Stem x) i = false
is_pin_number (DffPin j) i = false
is_pin_number (GatePin g k) i = i == k

-- a set of lanes has those whose fault is at a pin of gate g
abbrev pub AreGateLanes : List Fault → ℕ → ℕ → Type 0
AreGateLanes faults g lanes = (k : ℕ) → k < 64 → is_set lanes k ≡ is_at_gate (slice_get faults k) g

-- the net whose driver or stem a fault at a site changes; none where the site is a data pin
abbrev pub forced_net_of : Netlist → Site → Option ℕ
forced_net_of c (Stem x) = Some x.0
forced_net_of c (GatePin g i) = Some (first_gate_net c + g)
forced_net_of c (DffPin j) = None

-- The table has the faults: at each slot the lanes whose fault is there, and in `ones` the lanes that are stuck at 1.
pub record IsStuckTable (c : Netlist) (faults : List Fault) (ones : ℕ) (table : List ℕ) : Type 0 where
  pub few : length faults ≤ lane_count
  pub within : (k : ℕ) (fault : Fault) → slice_get faults k ≡ Some fault → HasSite c fault.site
  pub ones_at : (k : ℕ) (fault : Fault) → k < 64 → slice_get faults k ≡ Some fault → is_set ones k ≡ fault.value
  pub count : length table ≡ slot_count c
  pub lanes_at : (s k : ℕ) → s < slot_count c → k < 64 → is_set (get_or table s 0) k
      ≡ is_at_slot c (slice_get faults k) s

-- the lines of a circuit, with these faults
pub record AreStuck (c : Netlist) (lines : StuckLines) : Type 0 where
  pub circuit : IsCircuit c
  pub table : IsStuckTable c lines.faults.items lines.ones lines.table.items
