-- What a grader keeps of the faults that it grades, and the start and the lists of vectors that it stands for.
use Rattle.std.specs.Prelude.{◌≡◌, ℕ, List, [], Bool, true, Option, Some, None, length, get_or, map, replicate}
use Rattle.std.specs.List.{slice_get}
use Rattle.ht_tern.specs.declared.tern.Tern.{Tern}
use Rattle.ht_net.specs.declared.fault.Fault.{Fault}
use Rattle.ht_net.specs.declared.place.Place.{Place}
use Rattle.ht_net.specs.Circuit.Netlist.{Netlist}
use Rattle.ht_net.specs.Detect.Detection.{IsFirstFrom, state_from}
use Rattle.ht_faults.specs.FaultList.{no_fault}

-- What a grader keeps of the given faults.
pub record PackedView : Type 0 where
  pub circuit : Netlist
  pub faults : List Fault
  -- how many vectors were applied
  pub count : ℕ
  -- the latches of the good machine
  pub latches : List Tern
  -- the first detection of each fault, or none
  pub verdicts : List (Option Place)
  -- the latches of each fault's machine, which have no meaning once it is detected
  pub states : List (List Tern)
  -- whether it can go on: no allocation has failed
  pub live : Bool

-- the first detection of fault k, and the latches of its machine
abbrev pub verdict_at : PackedView → ℕ → Option Place
verdict_at g k = get_or g.verdicts k None

-- the latches of fault k after the vectors so far
abbrev pub state_at : PackedView → ℕ → List Tern
state_at g k = get_or g.states k []

-- the faults of a list that have these numbers
abbrev pub chosen_faults : List Fault → List ℕ → List Fault
chosen_faults faults numbers = map (λ i. get_or faults i no_fault) numbers

-- A grader before the first vector: every machine holds the start, and no fault is detected.
abbrev pub grades_at_start : Netlist → List Tern → List Fault → PackedView
grades_at_start c start faults = record {
  circuit = c;
  faults = faults;
  count = 0;
  latches = start;
  verdicts = replicate (length faults) None;
  states = replicate (length faults) start;
  live = true;
}

-- The grader stands for a list of vectors from a start: it keeps the first detection of each fault over the list, and
-- after the list the latches of the good machine and of each fault's machine that is not detected.
pub record GraderStandsFor (g : PackedView) (start : List Tern) (list : List (List Bool)) : Type 0 where
  pub counted : g.count ≡ length list
  pub good : g.latches ≡ state_from g.circuit None start list
  pub first : (k : ℕ) (fault : Fault) → slice_get g.faults k ≡ Some fault
      → IsFirstFrom g.circuit fault start list (verdict_at g k)
  pub state : (k : ℕ) (fault : Fault) → slice_get g.faults k ≡ Some fault → verdict_at g k ≡ None
      → state_at g k ≡ state_from g.circuit (Some fault) start list
