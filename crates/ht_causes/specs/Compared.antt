-- What the good machine and that of a fault hold side by side while a list of vectors is applied from a start.
use Rattle.std.specs.Prelude.{ℕ, ◌+◌, List, [], Bool, true, false, ◌||◌, length, get_or, take, Option, Some, None, is_some}
use Rattle.ht_tern.specs.declared.tern.Tern.{Tern}
use Rattle.ht_tern.specs.declared.tern.Tern.TheVariants.{Zero, One, Unk}
use Rattle.ht_tern.specs.Gate.{tern_of}
use Rattle.ht_tern.specs.Opposite.{are_opposite}
use Rattle.ht_net.specs.declared.fault.Site.{Site}
use Rattle.ht_net.specs.declared.fault.Fault.{Fault}
use Rattle.ht_net.specs.declared.place.Place.{Place}
use Rattle.ht_net.specs.Circuit.Netlist.{Netlist}
use Rattle.ht_net.specs.Frames.Frame.{net_value}
use Rattle.ht_net.specs.Frames.Faults.{tern_rules}
use Rattle.ht_net.specs.Detect.Detection.{output_from, state_from, terns_of}
use Rattle.ht_stems.specs.Arrivals.{net_of_line}
use Rattle.ht_causes.specs.declared.cause.LatchPlace.{LatchPlace}
use Rattle.ht_causes.specs.Firsts.{least_below, least_place}

-- ---- two values

-- the good value is definite and the faulty one is unknown: a tester may see the difference, or may not
abbrev pub are_unsure : Tern → Tern → Bool
are_unsure Zero Unk = true
are_unsure One Unk = true
are_unsure good faulty = false

-- the good value is definite and the faulty one is another, be it unknown
abbrev pub are_unlike : Tern → Tern → Bool
are_unlike good faulty = are_opposite good faulty || are_unsure good faulty

-- the value is 0 or 1
abbrev pub is_told : Tern → Bool
is_told Zero = true
is_told One = true
is_told Unk = false

-- ---- what the machines hold

-- what net x has at vector t in the machine of a fault, or in the good one
abbrev pub net_from : Netlist → Option Fault → List Tern → List (List Bool) → ℕ → ℕ → Tern
net_from c fault start list t x =
    net_value c (tern_rules fault) (terns_of (get_or list t []))
    (state_from c fault start (take t list)) x

-- what flip-flop j holds after vector t
abbrev pub latch_from : Netlist → Option Fault → List Tern → List (List Bool) → ℕ → ℕ → Tern
latch_from c fault start list t j = get_or (state_from c fault start (take (t + 1) list)) j Unk

-- What the line of a site carries at vector t in the good machine: a stem what its driver gives, a pin what its net has.
abbrev pub carried_from : Netlist → Site → List Tern → List (List Bool) → ℕ → Tern
carried_from c site start list t = net_from c None start list t (net_of_line c site).0

-- ---- what is looked for

-- a tester tells the machines apart at output o of vector t
abbrev pub detects_at : Netlist → Fault → List Tern → List (List Bool) → ℕ → ℕ → Bool
detects_at c fault start list t o =
    are_opposite (output_from c None start list t o) (output_from c (Some fault) start list t o)

-- output o of vector t is definite in the good machine, and unknown in the faulty one
abbrev pub may_detect_at : Netlist → Fault → List Tern → List (List Bool) → ℕ → ℕ → Bool
may_detect_at c fault start list t o =
    are_unsure (output_from c None start list t o) (output_from c (Some fault) start list t o)

-- after vector t flip-flop j holds a definite value in the good machine, and another in the faulty one
abbrev pub stores_at : Netlist → Fault → List Tern → List (List Bool) → ℕ → ℕ → Bool
stores_at c fault start list t j =
    are_unlike (latch_from c None start list t j) (latch_from c (Some fault) start list t j)

-- the fault's line carries at vector t the value opposite to the stuck one: the fault is excited
abbrev pub excites_at : Netlist → Fault → List Tern → List (List Bool) → ℕ → Bool
excites_at c fault start list t =
    are_opposite (carried_from c fault.site start list t) (tern_of fault.value)

-- the fault's line carries a definite value at vector t
abbrev pub tells_at : Netlist → Fault → List Tern → List (List Bool) → ℕ → Bool
tells_at c fault start list t = is_told (carried_from c fault.site start list t)

-- ---- where it is found first

-- output o at vector t
abbrev pub output_place : ℕ → ℕ → Place
output_place t o = record { vector = t; output = o }

-- flip-flop j after vector t
abbrev pub latch_place : ℕ → ℕ → LatchPlace
latch_place t j = record { vector = t; dff = j }

-- the first detection over the first n vectors of a list
abbrev pub first_detected : Netlist → Fault → List Tern → List (List Bool) → ℕ → Option Place
first_detected c fault start list n =
    least_place output_place (detects_at c fault start list) (length c.outputs) n

-- the first possible detection over the first n vectors
abbrev pub first_possible : Netlist → Fault → List Tern → List (List Bool) → ℕ → Option Place
first_possible c fault start list n =
    least_place output_place (may_detect_at c fault start list) (length c.outputs) n

-- where a flip-flop first keeps a difference, over the first n vectors
abbrev pub first_stored : Netlist → Fault → List Tern → List (List Bool) → ℕ → Option LatchPlace
first_stored c fault start list n =
    least_place latch_place (stores_at c fault start list) (length c.dffs) n

-- the first of the first n vectors at which the fault is excited
abbrev pub first_excited : Netlist → Fault → List Tern → List (List Bool) → ℕ → Option ℕ
first_excited c fault start list n = least_below (excites_at c fault start list) n

-- the fault's line carries a definite value at one of the first n vectors
abbrev pub is_ever_told : Netlist → Fault → List Tern → List (List Bool) → ℕ → Bool
is_ever_told c fault start list n = is_some (least_below (tells_at c fault start list) n)
