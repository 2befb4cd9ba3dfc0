-- The lines of a circuit that a fault can stand on, and how a report names them.
use Rattle.std.specs.Prelude.{ℕ, ◌+◌, ◌<◌, List, [], ◌∷◌, length, get_or, codes}
use Rattle.ht_net.specs.declared.fault.Site.{Site}
use Rattle.ht_net.specs.declared.fault.Site.TheVariants.{Stem, DffPin, GatePin}
use Rattle.ht_net.specs.Circuit.Netlist.{Netlist, net_count, first_gate_net, gate_at, no_net}
use Rattle.ht_net.specs.Build.Named.{name_of}
use Rattle.ht_texts.specs.Pieces.{Piece, word, number, name}

-- the site is a line of the circuit
abbrev pub IsSite : Netlist → Site → Type 0
IsSite c (Stem net) = net.0 < net_count c
IsSite c (DffPin dff) = dff < length c.dffs
IsSite c (GatePin gate pin) = (gate < length c.gates) × (pin < length (gate_at c gate).args)

-- a pin of the flip-flop or gate that drives this net, by its number from 1
abbrev pub pin_pieces : Netlist → ℕ → ℕ → List Piece
pin_pieces c net pin =
    name (name_of c (record { 0 = net })) ∷ word (codes "(") ∷ number pin ∷ word (codes ")") ∷ []

-- A stem by the name of its net; a pin by the net that its flip-flop or gate drives and its number. The one pin of a
-- flip-flop is 1.
abbrev pub site_pieces : Netlist → Site → List Piece
site_pieces c (Stem net) = name (name_of c net) ∷ []
site_pieces c (DffPin dff) = pin_pieces c (c.inputs + dff) 1
site_pieces c (GatePin gate pin) = pin_pieces c (first_gate_net c + gate) (pin + 1)

-- the name of the net of an output
abbrev pub output_text : Netlist → ℕ → List ℕ
output_text c output = name_of c (get_or c.outputs output no_net)
