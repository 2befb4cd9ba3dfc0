-- The first detections of the classes of faults.
use Rattle.std.specs.Prelude.{◌≡◌, ◌<◌, ℕ, List, Bool, true, Option, None, length, get_or}
use Rattle.std.specs.Option.{ForSome}
use Rattle.ht_tern.specs.declared.tern.Tern.{Tern}
use Rattle.ht_net.specs.declared.place.Place.{Place}
use Rattle.ht_net.specs.Circuit.Netlist.{Netlist}
use Rattle.ht_net.specs.Detect.Detection.{IsFirstFrom, IsPlace}
use Rattle.ht_faults.specs.Sites.{faults_of}
use Rattle.ht_faults.specs.Classes.{fault_at, is_representative}
use Rattle.ht_serial.specs.Places.{IsWithin}

-- the first detection of fault i, if it has one
abbrev pub place_at : List (Option Place) → ℕ → Option Place
place_at places i = get_or places i None

-- An entry for each fault of the list, by number from 0: of a representative it is the first place where the vectors
-- detect it from the start, or none.
pub record AreFirstDetections (c : Netlist) (representatives : List ℕ) (start : List Tern) (list : List (List Bool))
    (places : List (Option Place)) : Type 0 where
  pub each : length places ≡ length (faults_of c)
  pub first : (i : ℕ) → i < length (faults_of c) → is_representative representatives i ≡ true
      → IsFirstFrom c (fault_at c i) start list (place_at places i)

-- each place is an output of the circuit, at a vector of the list
abbrev pub AreWithin : Netlist → List (List Bool) → List (Option Place) → Type 0
AreWithin c list places = (i : ℕ) → ForSome (place_at places i) (IsWithin c list)

-- each entry is none, or a place of the circuit
abbrev pub ArePlaces : Netlist → List (Option Place) → Type 0
ArePlaces c places = (i : ℕ) → ForSome (place_at places i) (IsPlace c)
