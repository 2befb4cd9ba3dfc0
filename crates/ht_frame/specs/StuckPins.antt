-- Gates that have a stuck pin.
use Rattle.std.specs.Prelude.{◌==◌, ℕ, Bool, false, Option, Some, None}
use Rattle.ht_net.specs.declared.fault.Site.{Site}
use Rattle.ht_net.specs.declared.fault.Site.TheVariants.{Stem, DffPin, GatePin}
use Rattle.ht_net.specs.declared.fault.Fault.{Fault}

-- whether a site is some pin of gate g
abbrev pub is_pin_of : Site → ℕ → Bool
is_pin_of (Stem x) g = false
is_pin_of (DffPin j) g = false
is_pin_of (GatePin h i) g = g == h

-- there is a fault, and it is at a pin of gate g
abbrev pub is_at_gate : Option Fault → ℕ → Bool
is_at_gate None g = false
is_at_gate (Some fault) g = is_pin_of fault.site g
