-- Tables of where the effects of nets end.
use Rattle.std.specs.Prelude.{◌≡◌, ◌<◌, ◌+◌, ℕ, List, length, get_or}
use Rattle.ht_tern.specs.declared.tern.Tern.{Tern}
use Rattle.ht_tern.specs.declared.tern.Tern.TheVariants.{Zero, One, Unk}
use Rattle.ht_net.specs.Circuit.Netlist.{Netlist, first_gate_net, max_arguments, net_count}
use Rattle.ht_stems.specs.declared.arrival.Arrival.{Arrival}
use Rattle.ht_stems.specs.declared.arrival.Arrival.TheVariants.{Dies}
use Rattle.ht_stems.specs.declared.net_ends.NetEnds.{NetEnds}
use Rattle.ht_stems.specs.declared.net_loads.NetLoads.{NetLoads}
use Rattle.ht_stems.specs.declared.net_loads.NetLoads.TheVariants.{NoLoad, OneGate}
use Rattle.ht_stems.specs.LoadsOfNets.{AreLoads}
use Rattle.ht_stems.specs.Arrivals.{Arrives}

-- where the effect ends of a net that is forced to a value
abbrev pub end_at : NetEnds → Tern → Arrival
end_at ends Zero = ends.zero
end_at ends One = ends.one
end_at ends Unk = ends.unknown

-- what stands where a table has no net
abbrev pub no_ends : NetEnds
no_ends = record { zero = Dies; one = Dies; unknown = Dies }

-- they say for each value where the effect of net x ends that is forced to it
abbrev pub AreNetEnds : Netlist → (ℕ → Tern) → ℕ → NetEnds → Type 0
AreNetEnds c good x ends = (v : Tern) → Arrives c good x v (end_at ends v)

-- a table says so for each net
abbrev pub AreTableEnds : Netlist → (ℕ → Tern) → List NetEnds → Type 0
AreTableEnds c good table = (x : ℕ) → x < net_count c → AreNetEnds c good x (get_or table x no_ends)

-- a table says so for the net of the gate that is the only load of net x, if there is one
abbrev pub AreEndsAfter : Netlist → (ℕ → Tern) → List NetLoads → List NetEnds → ℕ → Type 0
AreEndsAfter c good loads table x = (g : ℕ) → get_or loads x NoLoad ≡ OneGate g
    → AreNetEnds c good (first_gate_net c + g) (get_or table (first_gate_net c + g) no_ends)

-- The tables of a pass: the loads of each net, a value and an entry for each, and room for the pins of a gate.
pub record ArePassTables (c : Netlist) (table : List NetLoads) (values pins : List Tern) (ends : List NetEnds)
    : Type 0 where
  pub loads : AreLoads c table
  pub value_count : length values ≡ net_count c
  pub room : length pins ≡ max_arguments
  pub count : length ends ≡ net_count c
