-- Where a list of vectors detects a fault: one observation time, both machines from one start.
use Rattle.std.specs.Prelude.{◌≡◌, ◌<◌, ◌⊎◌, ◌^◌, ◌-◌, ℕ, List, [], Bool, true, false, not, Option, Some, None, map, replicate, length, get_or, MatchOption}
use Rattle.ht_tern.specs.declared.tern.Tern.{Tern}
use Rattle.ht_tern.specs.declared.tern.Tern.TheVariants.{Zero, One, Unk}
use Rattle.ht_tern.specs.Gate.{AllRelated, StandsFor, tern_of}
use Rattle.ht_tern.specs.Opposite.{Opposite}
use Rattle.ht_net.specs.declared.fault.Fault.{Fault}
use Rattle.ht_net.specs.declared.place.Place.{Place}
use Rattle.ht_net.specs.Circuit.Netlist.{Netlist}
use Rattle.ht_net.specs.Frames.Frame.{run_outputs, run_state}
use Rattle.ht_net.specs.Frames.Faults.{tern_rules, bool_rules}

-- the bits as definite values
abbrev pub terns_of : List Bool → List Tern
terns_of bits = map tern_of bits

-- a start: a value for each latch
abbrev pub IsStart : Netlist → List Tern → Type 0
IsStart c start = length start ≡ length c.dffs

-- the start where none is stated: every latch unknown
abbrev pub unknown_state : Netlist → List Tern
unknown_state c = replicate (length c.dffs) Unk

-- the outputs of each frame over a list of vectors, from a start
abbrev pub outputs_from : Netlist → Option Fault → List Tern → List (List Bool) → List (List Tern)
outputs_from c fault start list = run_outputs c (tern_rules fault) start (map terns_of list)

-- what the latches hold after a list of vectors, from a start
abbrev pub state_from : Netlist → Option Fault → List Tern → List (List Bool) → List Tern
state_from c fault start list = run_state c (tern_rules fault) start (map terns_of list)

-- what output o shows at vector t, from a start
abbrev pub output_from : Netlist → Option Fault → List Tern → List (List Bool) → ℕ → ℕ → Tern
output_from c fault start list t o = get_or (get_or (outputs_from c fault start list) t []) o Unk

-- The list detects the fault at output o of vector t: there the good and the faulty machine, both from the start, show
-- opposite definite values.
abbrev pub DetectsFrom : Netlist → Fault → List Tern → List (List Bool) → ℕ → ℕ → Type 0
DetectsFrom c fault start list t o =
    Opposite (output_from c None start list t o) (output_from c (Some fault) start list t o)

-- the same from all-unknown
abbrev pub tern_outputs : Netlist → Option Fault → List (List Bool) → List (List Tern)
tern_outputs c fault list = outputs_from c fault (unknown_state c) list

-- what output o shows at vector t, from all-unknown
abbrev pub output_at : Netlist → Option Fault → List (List Bool) → ℕ → ℕ → Tern
output_at c fault list t o = output_from c fault (unknown_state c) list t o

-- The list detects the fault at vector t and output o, from all-unknown.
abbrev pub Detects : Netlist → Fault → List (List Bool) → ℕ → ℕ → Type 0
Detects c fault list t o = DetectsFrom c fault (unknown_state c) list t o

-- an output of the circuit, at a vector whose number from 1 fits 64 bits
pub record IsPlace (c : Netlist) (place : Place) : Type 0 where
  pub output : place.output < length c.outputs
  pub vector : place.vector < 2 ^ 64 - 1

-- an earlier vector, or the same vector and a lower output
abbrev pub IsBefore : ℕ → ℕ → Place → Type 0
IsBefore t o place = (t < place.vector) ⊎ ((t ≡ place.vector) × (o < place.output))

-- the first place where the list detects the fault from the start, or none where it does so nowhere
abbrev pub IsFirstFrom : Netlist → Fault → List Tern → List (List Bool) → Option Place → Type 0
IsFirstFrom c fault start list place =
    MatchOption place ((t o : ℕ) → ¬ DetectsFrom c fault start list t o)
    (λ p. DetectsFrom c fault start list p.vector p.output
    × ((t o : ℕ) → IsBefore t o p → ¬ DetectsFrom c fault start list t o))

-- the same from all-unknown
abbrev pub IsFirstDetection : Netlist → Fault → List (List Bool) → Option Place → Type 0
IsFirstDetection c fault list place = IsFirstFrom c fault (unknown_state c) list place

-- a two-valued state of every flip-flop
abbrev pub IsState : Netlist → List Bool → Type 0
IsState c state = length state ≡ length c.dffs

-- the start allows the state: it has the bit of each latch that is definite in the start
abbrev pub Allows : List Tern → List Bool → Type 0
Allows start state = AllRelated StandsFor start state

-- a bit that a value stands for: 0 where it is unknown
abbrev pub some_bit : Tern → Bool
some_bit Zero = false
some_bit One = true
some_bit Unk = false

-- a state that a start allows: 0 where the start is unknown
abbrev pub some_state : List Tern → List Bool
some_state start = map some_bit start

-- the two-valued output o at vector t, from a state
abbrev pub bit_at : Netlist → Option Fault → List Bool → List (List Bool) → ℕ → ℕ → Bool
bit_at c fault state list t o = get_or (get_or (run_outputs c (bool_rules fault) state list) t []) o false

-- opposite for every state of the good machine and every state of the faulty machine that the start allows
abbrev pub ApartFrom : Netlist → Fault → List Tern → List (List Bool) → ℕ → ℕ → Type 0
ApartFrom c fault start list t o = (state state' : List Bool) → Allows start state → Allows start state'
    → bit_at c (Some fault) state' list t o ≡ not (bit_at c None state list t o)

-- opposite for every two states: all-unknown allows them all
abbrev pub Apart : Netlist → Fault → List (List Bool) → ℕ → ℕ → Type 0
Apart c fault list t o = (state state' : List Bool) → IsState c state → IsState c state'
    → bit_at c (Some fault) state' list t o ≡ not (bit_at c None state list t o)
