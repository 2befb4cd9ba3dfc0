-- The lines of a circuit that a fault stands on, and the whole fault list.
use Rattle.std.specs.Prelude.{◌<◌, ◌≤◌, ℕ, List, [], ◌∷◌, ◌++◌, Bool, true, false, ltb, length, get_or, map}
use Rattle.std.specs.List.{filter, flat_map, range_with_len}
use Rattle.ht_net.specs.declared.fault.Site.{Site}
use Rattle.ht_net.specs.declared.fault.Site.TheVariants.{Stem, DffPin, GatePin}
use Rattle.ht_net.specs.declared.fault.Fault.{Fault}
use Rattle.ht_net.specs.Circuit.Netlist.{Netlist, net_count, gate_at, arg_at, no_net}
use Rattle.ht_net.specs.Circuit.Levels.{loads_of}

-- The two faults of a site: stuck-at-0 and then stuck-at-1.
abbrev pub site_faults : Site → List Fault
site_faults site = record { site = site; value = false } ∷ record { site = site; value = true } ∷ []

-- the stem of each net, by the number of the net
abbrev pub stems_of : Netlist → List Site
stems_of c = map (λ x. Stem (record { 0 = x })) (range_with_len 0 (net_count c))

-- the net at the data pin of flip-flop j
abbrev pub data_net : Netlist → ℕ → ℕ
data_net c j = (get_or c.dffs j no_net).0

-- every data pin, by flip-flop
abbrev pub data_pins_of : Netlist → List Site
data_pins_of c = map (λ j. DffPin j) (range_with_len 0 (length c.dffs))

-- every pin of gate g
abbrev pub pins_of_gate : Netlist → ℕ → List Site
pins_of_gate c g = map (λ i. GatePin g i) (range_with_len 0 (length (gate_at c g).args))

-- every pin of a gate, by gate and pin
abbrev pub gate_pins_of : Netlist → List Site
gate_pins_of c = flat_map (pins_of_gate c) (range_with_len 0 (length c.gates))

-- all lines: stems by net, then data pins, then gate pins
abbrev pub circuit_lines : Netlist → List Site
circuit_lines c = stems_of c ++ (data_pins_of c ++ gate_pins_of c)

-- A fanout net has two or more loads; an output mark counts as one.
unfoldable pub is_fanout : Netlist → ℕ → Bool
is_fanout c x = ltb 1 (loads_of c x)

-- A line is a fault site if it is a stem, or a pin that a fanout net drives. An output mark is no line.
abbrev pub is_site : Netlist → Site → Bool
is_site c (Stem x) = true
is_site c (DffPin j) = is_fanout c (data_net c j)
is_site c (GatePin g i) = is_fanout c (arg_at c g i)

-- the same as a fact: a line of the circuit that is a stem, or a pin that a fanout net drives
abbrev pub IsFaultSite : Netlist → Site → Type 0
IsFaultSite c (Stem x) = x.0 < net_count c
IsFaultSite c (DffPin j) = (j < length c.dffs) × (2 ≤ loads_of c (data_net c j))
IsFaultSite c (GatePin g i) = (g < length c.gates) × (i < length (gate_at c g).args)
    × (2 ≤ loads_of c (arg_at c g i))

-- the fault sites, in the order of the lines
abbrev pub sites_of : Netlist → List Site
sites_of c = filter (is_site c) (circuit_lines c)

-- the fault list: each site with stuck-at-0 and then stuck-at-1
abbrev pub faults_of : Netlist → List Fault
faults_of c = flat_map site_faults (sites_of c)
