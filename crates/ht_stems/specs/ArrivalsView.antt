-- The arrivals of a circuit as contracts see them.
use Rattle.std.specs.Prelude.{ℕ, List, get_or}
use Rattle.ht_tern.specs.declared.tern.Tern.{Tern}
use Rattle.ht_tern.specs.declared.tern.Tern.TheVariants.{Unk}
use Rattle.ht_net.specs.Circuit.Netlist.{Netlist}

-- a circuit, and the values of its nets from which effects go on
pub record ArrivalsView : Type 0 where
  pub circuit : Netlist
  pub good : List Tern

-- the value of net x
abbrev pub good_of_net : ArrivalsView → ℕ → Tern
good_of_net a x = get_or a.good x Unk
