-- Where the effect of a forced net ends within a frame of the good machine.
use Rattle.std.specs.Prelude.{◌≡◌, ◌≢◌, ◌<◌, ◌⊎◌, ◌+◌, ℕ, Bool, None, Some, length, get_or}
use Rattle.ht_tern.specs.declared.tern.Tern.{Tern}
use Rattle.ht_tern.specs.Gate.{tern_of}
use Rattle.ht_net.specs.declared.net.NetId.{NetId}
use Rattle.ht_net.specs.declared.fault.Site.{Site}
use Rattle.ht_net.specs.declared.fault.Site.TheVariants.{Stem, DffPin, GatePin}
use Rattle.ht_net.specs.declared.fault.Fault.{Fault}
use Rattle.ht_net.specs.Circuit.Netlist.{Netlist, first_gate_net, net_count, gate_at, no_net}
use Rattle.ht_net.specs.Frames.Frame.{gate_output}
use Rattle.ht_net.specs.Frames.Faults.{tern_rules}
use Rattle.ht_stems.specs.declared.arrival.Arrival.{Arrival}
use Rattle.ht_stems.specs.declared.arrival.Arrival.TheVariants.{Dies, AtLatch, AtOutput, AtStem}
use Rattle.ht_stems.specs.declared.net_loads.NetLoads.TheVariants.{NoLoad, OneGate, OneDataPin, OneOutput, Several}
use Rattle.ht_stems.specs.ForcedNets.{with_net_value}
use Rattle.ht_stems.specs.LoadsOfNets.{HasLoads}

-- Net x is forced to v in a frame whose nets have good values: the effect ends here. It dies where v is the good value
-- or nothing reads the net, comes to the latch or to the output that is its only load, stays at a stem with two loads
-- or more, and else goes on through the only gate that reads the net, with what that gate then gives.
pub data Arrives (c : Netlist) (good : ℕ → Tern) : ℕ → Tern → Arrival → Type 0 where
  unchanged : (x : ℕ) (v : Tern) → v ≡ good x → Arrives c good x v Dies
  unread : (x : ℕ) (v : Tern) → v ≢ good x → HasLoads c x NoLoad → Arrives c good x v Dies
  at_latch : (x : ℕ) (v : Tern) (j : ℕ) → v ≢ good x → HasLoads c x (OneDataPin j) → Arrives c good x v (AtLatch j v)
  at_output : (x : ℕ) (v : Tern) (o : ℕ) → v ≢ good x → HasLoads c x (OneOutput o)
      → Arrives c good x v (AtOutput o v)
  at_stem : (x : ℕ) (v : Tern) → v ≢ good x → HasLoads c x Several
      → Arrives c good x v (AtStem (record { 0 = x }) v)
  through_gate : (x : ℕ) (v : Tern) (g : ℕ) (a : Arrival) → v ≢ good x → HasLoads c x (OneGate g)
      → Arrives c good (first_gate_net c + g) (gate_output c (tern_rules None) (with_net_value good x v) g) a
      → Arrives c good x v a

-- the circuit has the line of a site
abbrev pub HasLine : Netlist → Site → Type 0
HasLine c (Stem x) = x.0 < net_count c
HasLine c (DffPin j) = j < length c.dffs
HasLine c (GatePin g i) = (g < length c.gates) × (i < length (gate_at c g).args)

-- the net whose value the line of a site carries
abbrev pub net_of_line : Netlist → Site → NetId
net_of_line c (Stem x) = x
net_of_line c (DffPin j) = get_or c.dffs j no_net
net_of_line c (GatePin g i) = get_or (gate_at c g).args i no_net

-- the value that the line of a fault carries in the good machine is the stuck one
abbrev pub IsStuckAlready : Netlist → (ℕ → Tern) → Fault → Type 0
IsStuckAlready c good fault = good (net_of_line c fault.site).0 ≡ tern_of fault.value

-- The effect of a line that is stuck at a bit, where it carries something else: that of a stem ends where its net's
-- does, that of a gate's pin where the gate's net's does with what the gate then gives, and that of a data pin at its
-- latch.
abbrev pub SiteArrives : Netlist → (ℕ → Tern) → Site → Bool → Arrival → Type 0
SiteArrives c good (Stem x) bit a = Arrives c good x.0 (tern_of bit) a
SiteArrives c good (GatePin g i) bit a = Arrives c good (first_gate_net c + g)
    (gate_output c (tern_rules (Some (record { site = GatePin g i; value = bit }))) good g) a
SiteArrives c good (DffPin j) bit a = a ≡ AtLatch j (tern_of bit)

-- the effect of a fault ends here: it dies where its line carries the stuck value already
abbrev pub FaultArrives : Netlist → (ℕ → Tern) → Fault → Arrival → Type 0
FaultArrives c good fault a = (IsStuckAlready c good fault × (a ≡ Dies))
    ⊎ ((¬ IsStuckAlready c good fault) × SiteArrives c good fault.site fault.value a)

-- the circuit has the flip-flop, the output or the net where an effect ends
abbrev pub IsWithin : Netlist → Arrival → Type 0
IsWithin c Dies = Unit {0}
IsWithin c (AtLatch j v) = j < length c.dffs
IsWithin c (AtOutput o v) = o < length c.outputs
IsWithin c (AtStem x v) = x.0 < net_count c
