-- Diagnosis: which machines explain what was observed.
use Rattle.std.specs.Prelude.{◌≡◌, ◌<◌, ℕ, List, Bool, true, Option, Some, None, length, get_or}
use Rattle.std.specs.Option.{ForSome}
use Rattle.ht_tern.specs.declared.tern.Tern.{Tern}
use Rattle.ht_tern.specs.Gate.{StandsFor}
use Rattle.ht_net.specs.declared.fault.Fault.{Fault}
use Rattle.ht_net.specs.declared.place.Place.{Place}
use Rattle.ht_net.specs.Circuit.Netlist.{Netlist}
use Rattle.ht_net.specs.Detect.Detection.{IsPlace, bit_at}
use Rattle.ht_faults.specs.Sites.{faults_of}
use Rattle.ht_faults.specs.Classes.{fault_at, is_representative}
use Rattle.ht_serial.specs.Contradictions.{IsFirstContradiction, observed_at}
use Rattle.ht_dictionary.specs.DiagnosisView.{DiagnosisView}

-- The machine's two-valued run from a state shows each definite value that was observed.
abbrev pub Explains : Netlist → Option Fault → List Bool → List (List Bool) → List (List Tern) → Type 0
Explains c fault state list rows =
    (t o : ℕ) → t < length list → o < length c.outputs
    → StandsFor (observed_at rows t o) (bit_at c fault state list t o)

-- what a diagnosis says of fault i
abbrev pub contradiction_at : List (Option Place) → ℕ → Option Place
contradiction_at places i = get_or places i None

-- The good machine's first contradiction with the observation and that of each representative.
pub record Diagnoses (c : Netlist) (representatives : List ℕ) (list : List (List Bool)) (rows : List (List Tern))
    (diagnosis : DiagnosisView) : Type 0 where
  pub good : IsFirstContradiction c None list rows diagnosis.good
  pub each : length diagnosis.places ≡ length (faults_of c)
  pub first : (i : ℕ) → i < length (faults_of c) → is_representative representatives i ≡ true
      → IsFirstContradiction c (Some (fault_at c i)) list rows (contradiction_at diagnosis.places i)

-- A diagnosis of the circuit's faults, whose contradictions are at places of the circuit.
pub record IsDiagnosisOf (c : Netlist) (diagnosis : DiagnosisView) : Type 0 where
  pub good : ForSome diagnosis.good (IsPlace c)
  pub each : length diagnosis.places ≡ length (faults_of c)
  pub places : (i : ℕ) → ForSome (contradiction_at diagnosis.places i) (IsPlace c)
