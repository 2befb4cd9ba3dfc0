-- How the fields of arrivals stand for them.
use Rattle.std.specs.Prelude.{◌≡◌, length, get_or}
use Rattle.ht_tern.specs.declared.tern.Tern.TheVariants.{Unk}
use Rattle.ht_net.specs.Circuit.Netlist.{net_count, max_arguments, IsCircuit}
use Rattle.ht_stems.specs.declared.arrivals.Arrivals.TheInside.{Inside}
use Rattle.ht_stems.specs.LoadsOfNets.{AreLoads}
use Rattle.ht_stems.specs.NetEnds.{AreTableEnds}
use Rattle.ht_stems.specs.ArrivalsView.{ArrivalsView}

-- the fields as arrivals
abbrev pub arrivals_of : Inside → ArrivalsView
arrivals_of a = record { circuit = a.circuit.now; good = a.values.items }

-- The table of loads is the circuit's, each net has where its effects end, and there is room for the pins of a gate.
pub record AreArrivalFields (a : Inside) : Type 0 where
  pub circuit : IsCircuit a.circuit.now
  pub loads : AreLoads a.circuit.now a.loads.items
  pub value_count : length a.values.items ≡ net_count a.circuit.now
  pub end_count : length a.ends.items ≡ net_count a.circuit.now
  pub ends : AreTableEnds a.circuit.now (λ x. get_or a.values.items x Unk) a.ends.items
  pub room : length a.pins.items ≡ max_arguments
