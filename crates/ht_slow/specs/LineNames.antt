-- The names of the nets of an expanded line.
use Rattle.std.specs.Prelude.{◌≢◌, ℕ, List, [], ◌∷◌, ◌+◌, ◌++◌, take, drop, codes, slice_set}
use Rattle.std.specs.List.{All}
use Rattle.std.specs.Fmt.{decimal}
use Rattle.ht_net.specs.declared.fault.Site.{Site}
use Rattle.ht_net.specs.declared.fault.Site.TheVariants.{Stem, DffPin, GatePin}
use Rattle.ht_net.specs.Build.Named.{Name, name_of}
use Rattle.ht_net.specs.Circuit.Netlist.{Netlist, first_gate_net}
use Rattle.ht_slow.specs.ExpandedLine.{net}

-- What the names of a line begin with: `x~` for the stem of net x, `y~I` for pin I, from 1, of the gate or flip-flop that
-- drives y.
abbrev pub line_stump : Netlist → Site → Name
line_stump c (Stem x) = name_of c x ++ codes "~"
line_stump c (DffPin j) = name_of c (net (c.inputs + j)) ++ codes "~1"
line_stump c (GatePin g i) =
    name_of c (net (first_gate_net c + g)) ++ (codes "~" ++ decimal (i + 1))

-- the name of L: that of the net for a stem
abbrev pub shown_name : Netlist → Site → Name
shown_name c (Stem x) = name_of c x
shown_name c (DffPin j) = line_stump c (DffPin j)
shown_name c (GatePin g i) = line_stump c (GatePin g i)

-- the name of P
abbrev pub before_name : Netlist → Site → Name
before_name c site = line_stump c site ++ codes "p"

-- the name of B
abbrev pub both_name : Netlist → Site → Name
both_name c site = line_stump c site ++ codes "b"

-- names where a stem's driver gives its name to L
abbrev pub renamed : List Name → Site → Name → List Name
renamed names (Stem x) name = slice_set names x.0 name
renamed names (DffPin j) name = names
renamed names (GatePin g i) name = names

-- three names more: that of P before those of the gates, and those of L and B at the end
abbrev pub with_three : ℕ → List Name → Name → Name → Name → List Name
with_three first names p l b =
    take first names ++ (p ∷ (drop first names ++ (l ∷ b ∷ [])))

-- no byte of a name is the mark `~`
abbrev pub HasNoMark : Name → Type 0
HasNoMark name = All (λ byte. byte ≢ 126) name
