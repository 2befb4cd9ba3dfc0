-- A slow line (transition fault): a rise, or a fall, of what it carries comes to its loads one frame late.
use Rattle.std.specs.Prelude.{◌<◌, ℕ, List, [], ◌∷◌, Bool, true, false, Option, Some, length, get_or}
use Rattle.ht_tern.specs.declared.tern.Tern.{Tern}
use Rattle.ht_tern.specs.declared.tern.Tern.TheVariants.{Unk}
use Rattle.ht_tern.specs.declared.gate.Kind.TheVariants.{And, Or}
use Rattle.ht_tern.specs.Gate.{gate_value, bool_gate_value}
use Rattle.ht_net.specs.declared.fault.Site.{Site}
use Rattle.ht_net.specs.declared.fault.Site.TheVariants.{Stem, DffPin, GatePin}
use Rattle.ht_net.specs.declared.fault.Fault.{Fault}
use Rattle.ht_net.specs.Circuit.Netlist.{Netlist, no_net, arg_at, net_count, gate_at}
use Rattle.ht_net.specs.Frames.Frame.{Rules, net_value, driver_value, frame_outputs, next_state}
use Rattle.ht_net.specs.Frames.Faults.{rules_of}

-- What the loads of a slow line see, of what it carries and what it carried in the frame before. `false` is slow to
-- rise: they see 1 only where it carries 1 and did before. `true` is slow to fall.
abbrev pub slow : Bool → Tern → Tern → Tern
slow false before v = gate_value And (v ∷ before ∷ [])
slow true before v = gate_value Or (v ∷ before ∷ [])

-- The rules of one frame of a machine with a slow line, by what the line carried in the frame before. A slow line stands
-- on a site as a stuck one does.
abbrev pub slow_rules : Option Fault → Tern → Rules Tern
slow_rules fault before = rules_of Unk gate_value (λ bit v. slow bit before v) fault

-- what the loads of a slow line see over bits
abbrev pub slow_bit : Bool → Bool → Bool → Bool
slow_bit false before v = bool_gate_value And (v ∷ before ∷ [])
slow_bit true before v = bool_gate_value Or (v ∷ before ∷ [])

-- the rules of one frame over bits
abbrev pub slow_bit_rules : Option Fault → Bool → Rules Bool
slow_bit_rules fault before = rules_of false bool_gate_value (λ bit v. slow_bit bit before v) fault

-- the net that a line belongs to
abbrev pub carrier_of : Netlist → Site → ℕ
carrier_of c (Stem x) = x.0
carrier_of c (DffPin j) = (get_or c.dffs j no_net).0
carrier_of c (GatePin g i) = arg_at c g i

-- What a line carries in a frame: a stem what its driver gives it, a pin what its net shows.
abbrev pub carried : {V : Type 0} → Netlist → Rules V → List V → List V → Site → V
carried c r vector latches (Stem x) =
    driver_value c r vector latches (net_value c r vector latches) x.0
carried c r vector latches (DffPin j) =
    net_value c r vector latches (carrier_of c (DffPin j))
carried c r vector latches (GatePin g i) =
    net_value c r vector latches (carrier_of c (GatePin g i))

-- The outputs of each frame of a machine that has one value more than its latches, what a line carried in the frame
-- before, by which the rules of the frame go.
abbrev pub outputs_with : {V : Type 0} → Netlist → Site → (V → Rules V) → V → List V → List (List V)
    → List (List V)
outputs_with c site r before latches [] = []
outputs_with c site r before latches (vector ∷ vectors) = frame_outputs c (r before) vector latches
    ∷ outputs_with c site r (carried c (r before) vector latches site)
    (next_state c (r before) vector latches) vectors

-- the outputs of each frame with a slow line, which carried `before` in the frame before the first
abbrev pub slow_outputs : Netlist → Fault → Tern → List Tern → List (List Tern) → List (List Tern)
slow_outputs c fault before latches vectors =
    outputs_with c fault.site (λ b. slow_rules (Some fault) b) before latches vectors

-- the same over bits
abbrev pub slow_bit_outputs : Netlist → Fault → Bool → List Bool → List (List Bool)
    → List (List Bool)
slow_bit_outputs c fault before latches vectors =
    outputs_with c fault.site (λ b. slow_bit_rules (Some fault) b) before latches vectors

-- a line of the circuit: a stem, a data pin or a pin of a gate
abbrev pub IsLine : Netlist → Site → Type 0
IsLine c (Stem x) = x.0 < net_count c
IsLine c (DffPin j) = j < length c.dffs
IsLine c (GatePin g i) = (g < length c.gates) × (i < length (gate_at c g).args)
