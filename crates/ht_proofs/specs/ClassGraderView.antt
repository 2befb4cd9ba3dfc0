-- What a grader of classes keeps, and the start and the list of vectors that it stands for.
use Rattle.std.specs.Prelude.{◌≡◌, ℕ, List, Bool, true, Option}
use Rattle.std.specs.Option.{ForSome}
use Rattle.ht_tern.specs.declared.tern.Tern.{Tern}
use Rattle.ht_net.specs.declared.place.Place.{Place}
use Rattle.ht_net.specs.Circuit.Netlist.{Netlist}
use Rattle.ht_net.specs.Detect.Detection.{ApartFrom, IsFirstFrom, IsStart}
use Rattle.ht_faults.specs.Sites.{faults_of}
use Rattle.ht_faults.specs.Classes.{fault_at, own_representatives}
use Rattle.ht_serial.specs.Places.{IsWithin}
use Rattle.ht_proofs.specs.Detections.{AreFirstDetections, AreWithin}
use Rattle.ht_proofs.specs.PackedView.{GraderStandsFor, PackedView, chosen_faults}

-- A grader of the representatives of all classes.
pub record ClassGraderView : Type 0 where
  -- the representative of each fault
  pub representatives : List ℕ
  -- the first detections so far, one for each fault; that of another than a representative has no meaning
  pub places : List (Option Place)
  -- the machines of the good circuit and of all representatives
  pub machines : PackedView
  -- whether it can go on: no call has failed
  pub live : Bool

-- The machines are those of the representatives of all classes of their circuit.
abbrev pub AreOfClasses : PackedView → List ℕ → Type 0
AreOfClasses machines representatives =
    machines.faults ≡ chosen_faults (faults_of machines.circuit) (own_representatives representatives)

-- The grader stands for a list of vectors from a start: it keeps the first detections over the list, and while it can
-- go on its machines have run through the list.
pub record ClassGraderStandsFor (g : ClassGraderView) (start : List Tern) (list : List (List Bool)) : Type 0 where
  pub latches : IsStart g.machines.circuit start
  pub first : AreFirstDetections g.machines.circuit g.representatives start list g.places
  pub within : AreWithin g.machines.circuit list g.places
  pub run : g.live ≡ true → GraderStandsFor g.machines start list

-- The verdict on fault i of a list of vectors from a start: its first detection, which is within the circuit and the
-- list. There the good and the faulty machine show opposite bits in two-valued runs from any two states that the start
-- allows.
pub record IsVerdictOn (c : Netlist) (i : ℕ) (start : List Tern) (list : List (List Bool)) (place : Option Place)
    : Type 0 where
  pub first : IsFirstFrom c (fault_at c i) start list place
  pub within : ForSome place (IsWithin c list)
  pub apart : ForSome place (λ p. ApartFrom c (fault_at c i) start list p.vector p.output)
