-- The expanded circuit of a line: a circuit in which the line's two transition faults are stuck pins.
--   P = DFF(D)   B = AND(D, P)   L = OR(D, B)
-- D is what the line carries, and the loads of the line read L. In the good machine L is D, also where D is unknown.
use Rattle.std.specs.Prelude.{ℕ, suc, List, [], ◌∷◌, ◌+◌, Bool, true, false, cond, ltb, map, length}
use Rattle.ht_tern.specs.declared.gate.Kind.TheVariants.{And, Or}
use Rattle.ht_net.specs.declared.net.NetId.{NetId}
use Rattle.ht_net.specs.declared.fault.Site.{Site}
use Rattle.ht_net.specs.declared.fault.Site.TheVariants.{Stem, DffPin, GatePin}
use Rattle.ht_net.specs.declared.fault.Fault.{Fault}
use Rattle.ht_net.specs.Circuit.Netlist.{Netlist, Gate, first_gate_net, net_count}
use Rattle.ht_net.specs.Frames.Faults.{is_stem, is_pin, is_data_pin}
use Rattle.ht_slow.specs.Slow.{carrier_of}

-- the net of a number
abbrev pub net : ℕ → NetId
net x = record { 0 = x }

-- the net that a driver drives in the expanded circuit: those of gates move up by one, since P comes before them
abbrev pub moved : Netlist → ℕ → ℕ
moved c x = cond (ltb x (first_gate_net c)) x (suc x)

-- a line of the circuit in the expanded circuit
abbrev pub moved_line : Netlist → Site → Site
moved_line c (Stem x) = Stem (net (moved c x.0))
moved_line c (DffPin j) = DffPin j
moved_line c (GatePin g i) = GatePin g i

-- the net of P
abbrev pub before_net : Netlist → ℕ
before_net c = first_gate_net c

-- the net of L
abbrev pub line_net : Netlist → ℕ
line_net c = suc (net_count c)

-- the net of B
abbrev pub both_net : Netlist → ℕ
both_net c = suc (suc (net_count c))

-- what a load of net x reads: L where it is a load of the line, else the net
abbrev pub read_net : Netlist → Site → Bool → NetId → NetId
read_net c site at_line x = net (cond (is_stem site x.0) (line_net c)
    (cond at_line (line_net c) (moved c x.0)))

-- what the pins of gate g read, from pin i on
abbrev pub read_args : Netlist → Site → ℕ → ℕ → List NetId → List NetId
read_args c site g i [] = []
read_args c site g i (a ∷ args) =
    read_net c site (is_pin site g i) a ∷ read_args c site g (i + 1) args

-- the gates from g on, and then the two of the line, L and B
abbrev pub read_gates : Netlist → Site → ℕ → List Gate → List Gate
read_gates c site g [] =
    record { kind = Or; args = net (moved c (carrier_of c site)) ∷ net (both_net c) ∷ [] }
    ∷ record { kind = And; args = net (moved c (carrier_of c site)) ∷ net (before_net c) ∷ [] }
    ∷ []
read_gates c site g (gate ∷ gates) =
    record { kind = gate.kind; args = read_args c site g 0 gate.args }
    ∷ read_gates c site (g + 1) gates

-- the data pins from j on, and then that of P
abbrev pub read_dffs : Netlist → Site → ℕ → List NetId → List NetId
read_dffs c site j [] = net (moved c (carrier_of c site)) ∷ []
read_dffs c site j (d ∷ dffs) =
    read_net c site (is_data_pin site j) d ∷ read_dffs c site (j + 1) dffs

-- the circuit with one line expanded, and names for its nets
abbrev pub expanded_line : Netlist → Site → List (List ℕ) → Netlist
expanded_line c site names = record {
  inputs = c.inputs;
  dffs = read_dffs c site 0 c.dffs;
  gates = read_gates c site 0 c.gates;
  outputs = map (read_net c site false) c.outputs;
  names = names;
}

-- The stuck pin for a transition fault of the line: the first pin of L stuck at 0 is slow to rise, the first pin of B
-- stuck at 1 slow to fall.
abbrev pub stuck_pin : Netlist → Bool → Fault
stuck_pin c false = record { site = GatePin (length c.gates) 0; value = false }
stuck_pin c true = record { site = GatePin (suc (length c.gates)) 0; value = true }
