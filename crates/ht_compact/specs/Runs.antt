-- Machines of some wanted faults that run over a list without a run of vectors.
use Rattle.std.specs.Prelude.{◌≡◌, ◌≢◌, ◌<◌, ◌≤◌, ◌+◌, ◌⊎◌, ◌++◌, ◌∷◌, ℕ, List, [], Bool, true, false, Option, Some, None, length, get_or}
use Rattle.std.specs.List.{slice_get}
use Rattle.ht_tern.specs.declared.tern.Tern.{Tern}
use Rattle.ht_net.specs.declared.fault.Fault.{Fault}
use Rattle.ht_net.specs.declared.place.Place.{Place}
use Rattle.ht_net.specs.Circuit.Netlist.{Netlist}
use Rattle.ht_net.specs.Detect.Detection.{terns_of}
use Rattle.ht_group.specs.declared.diffs.Diff.{Diff}
use Rattle.ht_group.specs.GoodFrames.{AreFrameValues}
use Rattle.ht_group.specs.GroupView.{AreLatches, GroupView}
use Rattle.ht_proofs.specs.declared.grade.Grade.{Grade}
use Rattle.ht_proofs.specs.Applied.{good_state}
use Rattle.ht_proofs.specs.Batches.{IsGradedFrame}
use Rattle.ht_proofs.specs.LaneGrades.{grade_at}
use Rattle.ht_proofs.specs.Undetected.{undetected_of, verdicts_of}
use Rattle.ht_compact.specs.declared.graded.GradedVectors.{GradedVectors}
use Rattle.ht_compact.specs.declared.moment.Moment.{Moment}
use Rattle.ht_compact.specs.declared.runners.Runner.{Runner}
use Rattle.ht_compact.specs.declared.runners.Runners.{Runners}
use Rattle.ht_compact.specs.Kept.{continued}
use Rattle.ht_compact.specs.Moments.{AreMoments, HoldsMachine, IsFaultHistory, IsMoment, state_before, wanted_fault}
use Rattle.ht_compact.specs.GradedLists.{CanTakePart, history_of, shorter}

-- runner j, of wanted fault 0 where there is none
abbrev pub runner_at : List Runner → ℕ → Runner
runner_at runners j = get_or runners j (record { place = 0; log = []; rest = 0 })

-- ---- one fault

-- No vector before the n-th from vector `from` on detects the fault, and these are its differences before them and now.
pub record IsRunning (c : Netlist) (fault : Fault) (list : List (List Bool)) (from n : ℕ)
    (log : List (List Diff))
    (diffs : List Diff) : Type 0 where
  pub every : length log ≡ n
  pub each : (k : ℕ) → k < n → HoldsMachine c fault list (from + k) (get_or log k [])
  pub now : HoldsMachine c fault list (from + n) diffs

-- A fault after n vectors: it runs, or has ended, where its log continues its history up to vector `from`.
pub record IsRunner (c : Netlist) (fault : Fault) (list : List (List Bool)) (from n : ℕ)
    (history : List (List Diff))
    (runner : Runner) (grade : Grade) : Type 0 where
  pub order : from ≤ runner.rest
  pub running : grade.verdict ≡ None
      → (runner.rest ≡ length history) × IsRunning c fault list from n runner.log grade.diffs
  pub ended : (p : Place) → grade.verdict ≡ Some p
      → IsFaultHistory c fault list (continued from history runner.log runner.rest)

-- The runner of a fault that has ended stays, and one that runs has its differences noted.
pub record HasLogged (grade : Grade) (old new : Runner) : Type 0 where
  pub running : grade.verdict ≡ None → new ≡ record old { log = old.log ++ grade.diffs ∷ [] }
  pub ended : (p : Place) → grade.verdict ≡ Some p → new ≡ old

-- A fault that runs holds the differences that its history has before vector t, and its history goes on there.
pub record HasJoined (history : List (List Diff)) (t : ℕ) (was is : Grade)
    (old new : Runner) : Type 0 where
  pub none : was.verdict ≡ None
  pub inside : t < length history
  pub same : get_or history t [] ≡ was.diffs
  pub runner : new ≡ record old { rest = t }
  pub grade : is ≡ record was { verdict = Some (record { vector = t; output = 0 }) }

-- that, or nothing has changed
abbrev pub MayHaveJoined : List (List Diff) → ℕ → Grade → Grade → Runner → Runner → Type 0
MayHaveJoined history t was is old new =
    ((is ≡ was) × (new ≡ old)) ⊎ HasJoined history t was is old new

-- ---- all faults of a run

-- the logs of all runners have the differences before one more vector
pub record HaveLogged (grades : List Grade) (old new : List Runner) : Type 0 where
  pub every : length new ≡ length old
  pub each : (j : ℕ) → j < length old
      → HasLogged (grade_at grades j) (runner_at old j) (runner_at new j)

-- some of them have joined their histories before vector t
pub record SomeJoined (histories : List (List (List Diff))) (t : ℕ) (was is : List Grade)
    (old new : List Runner) : Type 0 where
  pub grades : length is ≡ length was
  pub runners : length new ≡ length old
  pub each : (j : ℕ) → j < length old → MayHaveJoined (get_or histories (runner_at old j).place [])
      t (grade_at was j)
      (grade_at is j) (runner_at old j) (runner_at new j)

-- the frame of the good machine with a vector and latches, before any machine is added
abbrev pub good_frame : Netlist → List Bool → List Tern → GroupView
good_frame c vector latches = record {
  circuit = c;
  vector = terns_of vector;
  latches = latches;
  machines = [];
  settled = true;
}

-- All machines have gone through a frame.
pub record HavePassed (frame : GroupView) (number : ℕ) (old new : Runners) : Type 0 where
  pub latches : new.latches.items ≡ good_state frame
  pub joined : new.joined ≡ old.joined
  pub moments : new.moments ≡ old.moments
  pub faults : new.faults ≡ old.faults
  pub logged : HaveLogged old.grades.items old.runners.items new.runners.items
  pub graded : IsGradedFrame frame old.faults.items number old.grades.items new.grades.items
  pub every : length new.grades.items ≡ length old.grades.items
  pub listed : new.undetected.items ≡ undetected_of (verdicts_of new.grades.items)
  pub known : (k : ℕ) → AreLatches frame.circuit (grade_at new.grades.items k).diffs

-- ---- the good machine

-- After m vectors the good machine holds what it held in the list that is kept, of which all moments are known.
pub record HasGoodJoined (c : Netlist) (graded : GradedVectors) (from to m : ℕ) : Type 0 where
  pub all : length graded.moments.items ≡ length graded.vectors.list
  pub same : state_before c None (shorter graded from to) (from + m)
      ≡ state_before c None graded.vectors.list (to + m)

-- The moments before the vectors from `from` on, n of them or as many as there were before the good machine joined.
pub record AreRunMoments (c : Netlist) (graded : GradedVectors) (from to n : ℕ) (joined : Bool)
    (moments : List Moment) : Type 0 where
  pub some : length moments ≤ n
  pub each : (k : ℕ) (d : Moment) → k < length moments
      → IsMoment c (shorter graded from to) (from + k) (get_or moments k d)
  pub running : joined ≡ false → length moments ≡ n
  pub ended : joined ≡ true → HasGoodJoined c graded from to (length moments)

-- ---- the run

-- runner j has the fault at its place among the wanted ones
pub record IsOfFault (c : Netlist) (graded : GradedVectors) (from : ℕ) (runner : Runner)
    (is : Option Fault) : Type 0 where
  pub part : CanTakePart graded from runner.place
  pub fault : is ≡ Some (wanted_fault c graded.wanted.items runner.place)

-- The run after n vectors: the good machine, and beside it the machines of faults that no vector has shown.
pub record AreRunners (c : Netlist) (graded : GradedVectors) (from to n : ℕ) (run : Runners)
    : Type 0 where
  pub latches : run.latches.items ≡ state_before c None (shorter graded from to) (from + n)
  pub moments : AreRunMoments c graded from to n run.joined run.moments.items
  pub grades : length run.grades.items ≡ length run.runners.items
  pub faults : length run.faults.items ≡ length run.runners.items
  pub listed : run.undetected.items ≡ undetected_of (verdicts_of run.grades.items)
  pub known : (k : ℕ) → AreLatches c (grade_at run.grades.items k).diffs
  pub of_fault : (j : ℕ) → j < length run.runners.items
      → IsOfFault c graded from (runner_at run.runners.items j) (slice_get run.faults.items j)
  pub each : (j : ℕ) → j < length run.runners.items → IsRunner c
      (wanted_fault c graded.wanted.items (runner_at run.runners.items j).place)
      (shorter graded from to) from n
      (history_of graded (runner_at run.runners.items j).place) (runner_at run.runners.items j)
      (grade_at run.grades.items j)

-- A fault is detected by the shorter list, where its log continues its history up to vector `from`.
pub record HasEnded (c : Netlist) (fault : Fault) (list : List (List Bool)) (from : ℕ)
    (history : List (List Diff))
    (runner : Runner) : Type 0 where
  pub order : from ≤ runner.rest
  pub is_history : IsFaultHistory c fault list (continued from history runner.log runner.rest)

-- The run has ended: each of its faults is detected by the shorter list, which has these moments.
pub record HaveEnded (c : Netlist) (graded : GradedVectors) (from to : ℕ) (run : Runners)
    : Type 0 where
  pub few : to + length run.moments.items ≤ length graded.vectors.list
  pub moments : AreMoments c (shorter graded from to)
      (continued from graded.moments.items run.moments.items (to + length run.moments.items))
  pub of_fault : (j : ℕ) → j < length run.runners.items
      → IsOfFault c graded from (runner_at run.runners.items j) (slice_get run.faults.items j)
  pub each : (j : ℕ) → j < length run.runners.items → HasEnded c
      (wanted_fault c graded.wanted.items (runner_at run.runners.items j).place)
      (shorter graded from to) from
      (history_of graded (runner_at run.runners.items j).place) (runner_at run.runners.items j)

-- no two runners have one fault
abbrev pub HaveOtherPlaces : List Runner → Type 0
HaveOtherPlaces runners =
    (i j : ℕ) → i < j → j < length runners
    → (runner_at runners i).place ≢ (runner_at runners j).place

-- runner by runner the same faults
pub record HaveSamePlaces (old new : List Runner) : Type 0 where
  pub every : length new ≡ length old
  pub each : (j : ℕ) → j < length old → (runner_at new j).place ≡ (runner_at old j).place

-- fault k is that of no runner
abbrev pub HasNoRunner : List Runner → ℕ → Type 0
HasNoRunner runners k = (j : ℕ) → j < length runners → (runner_at runners j).place ≢ k

-- The vectors before vector `from` detect each wanted fault without a runner.
pub record IsSettledBefore (c : Netlist) (graded : GradedVectors) (from k : ℕ) : Type 0 where
  pub is_history : IsFaultHistory c (wanted_fault c graded.wanted.items k) graded.vectors.list
      (history_of graded k)
  pub before : length (history_of graded k) ≤ from

-- the same of all of them
abbrev pub AreSettledBefore : Netlist → GradedVectors → ℕ → List Runner → Type 0
AreSettledBefore c graded from runners =
    (k : ℕ) → k < length graded.wanted.items → HasNoRunner runners k
    → IsSettledBefore c graded from k

-- ---- a frame that begins

-- A moment more, of these latches, with the values of all nets in the frame of the vector.
pub record HasMoment (c : Netlist) (vector : List Bool) (latches : List Tern)
    (old new : List Moment) : Type 0 where
  pub moment : Moment
  pub more : new ≡ old ++ moment ∷ []
  pub same : moment.latches.items ≡ latches
  pub values : AreFrameValues c (terns_of vector) latches moment.values.items

-- The frame of the vector has begun: a good machine that hasn't joined notes its moment.
pub record HaveBegun (c : Netlist) (vector : List Bool) (old new : Runners) : Type 0 where
  pub same : new ≡ record old { moments = new.moments }
  pub joined : old.joined ≡ true → new.moments.items ≡ old.moments.items
  pub running : old.joined ≡ false
      → HasMoment c vector old.latches.items old.moments.items new.moments.items

-- ---- joining

-- the good machine holds what it held before vector t
pub record HasMet (moments : List Moment) (t : ℕ) (latches : List Tern) : Type 0 where
  pub inside : t < length moments
  pub same : (d : Moment) → (get_or moments t d).latches.items ≡ latches

-- Faults have joined their histories before vector t, and nothing else has changed.
pub record HaveJoined (histories : List (List (List Diff))) (t : ℕ) (old new : Runners)
    : Type 0 where
  pub latches : new.latches ≡ old.latches
  pub joined : new.joined ≡ old.joined
  pub moments : new.moments ≡ old.moments
  pub faults : new.faults ≡ old.faults
  pub some : SomeJoined histories t old.grades.items new.grades.items old.runners.items
      new.runners.items
  pub listed : new.undetected.items ≡ undetected_of (verdicts_of new.grades.items)

-- The histories of runner n and of those after it have gone on with what was noted of them.
pub record AreContinued (runners : List Runner) (from n : ℕ)
    (old new : List (List (List Diff))) : Type 0 where
  pub every : length new ≡ length old
  pub ran : (j : ℕ) → n ≤ j → j < length runners → get_or new (runner_at runners j).place []
      ≡ continued from (get_or old (runner_at runners j).place []) (runner_at runners j).log
      (runner_at runners j).rest
  pub others : (k : ℕ) → ((j : ℕ) → n ≤ j → j < length runners → (runner_at runners j).place ≢ k)
      → get_or new k [] ≡ get_or old k []

-- ---- which faults take part

-- A fault that some vector from this one on is the first to detect is added, or none.
abbrev pub MayHavePushed : List (List Diff) → ℕ → ℕ → List ℕ → List ℕ → Type 0
MayHavePushed history from k old new = ((0 < from → from < length history) × (new ≡ old ++ k ∷ []))
    ⊎ (((0 < from) × (length history ≤ from)) × (new ≡ old))
