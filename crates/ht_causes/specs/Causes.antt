-- Why a list of vectors from a start doesn't detect a fault, or where it does.
use Rattle.std.specs.Prelude.{◌≡◌, ◌<◌, ◌⊎◌, ℕ, List, Bool, true, false, length, get_or, Option, Some, None}
use Rattle.ht_tern.specs.declared.tern.Tern.{Tern}
use Rattle.ht_tern.specs.Gate.{Refines}
use Rattle.ht_net.specs.declared.fault.Fault.{Fault}
use Rattle.ht_net.specs.declared.place.Place.{Place}
use Rattle.ht_net.specs.Circuit.Netlist.{Netlist, net_count}
use Rattle.ht_net.specs.Detect.Detection.{output_from}
use Rattle.ht_faults.specs.Sites.{faults_of}
use Rattle.ht_faults.specs.Classes.{fault_at, is_representative}
use Rattle.ht_causes.specs.declared.cause.Cause.{Cause}
use Rattle.ht_causes.specs.declared.cause.Cause.TheVariants.{Detected, Possible, Stored, Stopped, Unexcited, Unknown}
use Rattle.ht_causes.specs.declared.cause.LatchPlace.{LatchPlace}
use Rattle.ht_causes.specs.declared.sightings.Sightings.{Sightings}
use Rattle.ht_causes.specs.Compared.{first_detected, first_excited, first_possible, first_stored, is_ever_told, latch_from, net_from}

-- The table of causes, by the first detection, the first possible one, the first stored difference, the first
-- excitation, and whether the line ever carries a definite value: the first of them that is there decides.
abbrev pub cause_row : Option Place → Option Place → Option LatchPlace → Option ℕ → Bool → Cause
cause_row (Some place) possible stored excited told = Detected place
cause_row None (Some place) stored excited told = Possible place
cause_row None None (Some place) excited told = Stored place
cause_row None None None (Some vector) told = Stopped vector
cause_row None None None None true = Unexcited
cause_row None None None None false = Unknown

-- the cause of a fault over the first n vectors of a list, from a start
abbrev pub cause_within : Netlist → Fault → List Tern → List (List Bool) → ℕ → Cause
cause_within c fault start list n =
    cause_row (first_detected c fault start list n) (first_possible c fault start list n)
    (first_stored c fault start list n) (first_excited c fault start list n)
    (is_ever_told c fault start list n)

-- the cause of a fault over a list of vectors, from a start
abbrev pub cause_of : Netlist → Fault → List Tern → List (List Bool) → Cause
cause_of c fault start list = cause_within c fault start list (length list)

-- the row of the table in which a cause stands, from the top
abbrev pub table_row : Cause → ℕ
table_row (Detected place) = 0
table_row (Possible place) = 1
table_row (Stored place) = 2
table_row (Stopped vector) = 3
table_row Unexcited = 4
table_row Unknown = 5

-- ---- what the rows say of each other

-- At each vector of a list each net, each flip-flop and each output of the faulty machine tells all that the good one
-- tells.
pub record TellsAllGoodTells (c : Netlist) (fault : Fault) (start : List Tern)
    (list : List (List Bool)) : Type 0 where
  pub nets : (t x : ℕ) → t < length list → x < net_count c
      → Refines (net_from c (Some fault) start list t x) (net_from c None start list t x)
  pub latches : (t j : ℕ) → t < length list
      → Refines (latch_from c (Some fault) start list t j) (latch_from c None start list t j)
  pub outputs : (t o : ℕ) → t < length list
      → Refines (output_from c (Some fault) start list t o) (output_from c None start list t o)

-- no output shows a difference, for certain or possibly, and no flip-flop keeps one
pub record ShowsNothing (c : Netlist) (fault : Fault) (start : List Tern)
    (list : List (List Bool)) : Type 0 where
  pub detected : first_detected c fault start list (length list) ≡ None
  pub possible : first_possible c fault start list (length list) ≡ None
  pub stored : first_stored c fault start list (length list) ≡ None

-- the new cause is the old one, or stands above it in the table
abbrev pub IsSameOrAbove : Cause → Cause → Type 0
IsSameOrAbove old new = (new ≡ old) ⊎ (table_row new < table_row old)

-- ---- the causes of all classes

-- the cause that is listed for fault i
abbrev pub cause_at : List Cause → ℕ → Cause
cause_at causes i = get_or causes i Unknown

-- There is an entry for each fault, and that of each representative is its cause. What stands at another fault has no
-- meaning.
pub record AreCauses (c : Netlist) (representatives : List ℕ) (start : List Tern)
    (list : List (List Bool)) (causes : List Cause) : Type 0 where
  pub each : length causes ≡ length (faults_of c)
  pub exact : (i : ℕ) → i < length (faults_of c) → is_representative representatives i ≡ true
      → cause_at causes i ≡ cause_of c (fault_at c i) start list

-- ---- while the vectors run

-- What is kept of a fault is what the first n vectors show, as far as it decides its cause.
pub record AreSightings (c : Netlist) (fault : Fault) (start : List Tern)
    (list : List (List Bool)) (n : ℕ) (kept : Sightings) : Type 0 where
  pub detected : kept.detected ≡ first_detected c fault start list n
  pub possible : kept.possible ≡ first_possible c fault start list n
  pub stored : kept.stored ≡ first_stored c fault start list n
  pub excited : kept.excited ≡ first_excited c fault start list n
  pub told : kept.told ≡ is_ever_told c fault start list n
