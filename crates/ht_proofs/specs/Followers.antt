-- Faults of a frame whose effects end at one stem: the first is graded in a lane, and the others take over its grade.
use Rattle.std.specs.Prelude.{◌≡◌, ◌≢◌, ◌<◌, ◌++◌, ◌∷◌, ℕ, List, [], Bool, true, false, Option, Some, None, length, get_or, map, set, if◌then◌else◌}
use Rattle.std.specs.List.{slice_get}
use Rattle.ht_tern.specs.declared.tern.Tern.{Tern}
use Rattle.ht_tern.specs.declared.tern.Tern.TheVariants.{Zero, One, Unk}
use Rattle.ht_tern.specs.Opposite.{are_opposite}
use Rattle.ht_net.specs.declared.net.NetId.{NetId}
use Rattle.ht_net.specs.declared.fault.Fault.{Fault}
use Rattle.ht_net.specs.Frames.Faults.{tern_rules}
use Rattle.ht_stems.specs.declared.arrival.Arrival.{Arrival}
use Rattle.ht_stems.specs.declared.arrival.Arrival.TheVariants.{Dies, AtLatch, AtOutput, AtStem}
use Rattle.ht_stems.specs.Arrivals.{IsWithin}
use Rattle.ht_stems.specs.ArrivedFrames.{ShowsArrival}
use Rattle.ht_group.specs.GroupView.{GroupView, good_output}
use Rattle.ht_proofs.specs.LaneGrades.{no_grade, grade_at, with_place, HasNoLane, IsGradedFault}
use Rattle.ht_proofs.specs.Batches.{BatchStandsFor, BatchView, FrameStart, machine_from}
use Rattle.ht_proofs.specs.declared.grade.Grade.{Grade}
use Rattle.ht_proofs.specs.declared.stems.Firsts.{Firsts}
use Rattle.ht_proofs.specs.declared.stems.Follower.{Follower}
use Rattle.ht_proofs.specs.declared.stems.Stems.{Stems}

-- no fault has arrived at a net
abbrev pub no_firsts : Firsts
no_firsts = record { zero = None; one = None; unknown = None }

-- the first fault that arrived at a net with a value
abbrev pub first_in : Firsts → Tern → Option ℕ
first_in firsts Zero = firsts.zero
first_in firsts One = firsts.one
first_in firsts Unk = firsts.unknown

-- the same once fault i is the first that arrived there with a value
abbrev pub with_first : Firsts → Tern → ℕ → Firsts
with_first firsts Zero i = record firsts { zero = Some i }
with_first firsts One i = record firsts { one = Some i }
with_first firsts Unk i = record firsts { unknown = Some i }

-- the first fault that arrived at net x with a value, in a table of all nets
abbrev pub first_at : List Firsts → ℕ → Tern → Option ℕ
first_at table x v = first_in (get_or table x no_firsts) v

-- the table once fault i is the first that arrived at net x with a value
abbrev pub first_noted : List Firsts → ℕ → Tern → ℕ → List Firsts
first_noted table x v i = set table x (with_first (get_or table x no_firsts) v i)

-- the table of a frame where it was found where effects end, and else none
abbrev pub firsts_if : Bool → List Firsts → List Firsts
firsts_if found table = if found then table else []

-- no follower
abbrev pub no_follower : Follower
no_follower = record { fault = 0; first = 0 }

-- the faults that follow others
abbrev pub following : List Follower → List ℕ
following followers = map (λ (f : Follower). f.fault) followers

-- Fault i arrives at net x with a value. It is the first there and needs a lane, or else it follows the first.
pub data Joins (x : ℕ) (v : Tern) (i : ℕ) (table : List Firsts) (followers : List Follower)
    : Bool → List Firsts → List Follower → Type 0 where
  comes_first : x < length table → first_at table x v ≡ None
      → Joins x v i table followers true (first_noted table x v i) followers
  comes_later : (f : ℕ) → first_at table x v ≡ Some f
      → Joins x v i table followers false table (followers ++ record { fault = i; first = f } ∷ [])

-- whether an effect ends at a stem
abbrev pub is_at_stem : Arrival → Bool
is_at_stem Dies = false
is_at_stem (AtLatch j v) = false
is_at_stem (AtOutput o v) = false
is_at_stem (AtStem x v) = true

-- what is kept of a fault without differences once it is known where its effect ends, if that is not at a stem
abbrev pub arrived_grade : GroupView → ℕ → Arrival → Grade
arrived_grade frame number Dies = no_grade
arrived_grade frame number (AtLatch j v) = record { verdict = None; diffs = record { latch = j; value = v } ∷ [] }
arrived_grade frame number (AtOutput o v) =
    with_place (are_opposite (good_output frame o) v) (record { vector = number; output = o }) no_grade
arrived_grade frame number (AtStem x v) = no_grade

-- an effect of a fault ends here in a frame of good latches
pub record EndsAt (frame : GroupView) (fault : Fault) (a : Arrival) : Type 0 where
  pub shows : ShowsArrival frame.circuit (tern_rules (Some fault)) frame.vector frame.latches a
  pub within : IsWithin frame.circuit a

-- Fault i goes through a frame: it needs a lane where its machine holds other latches or it is the first that arrives
-- at a stem; else it follows the first one there, or its effect ends somewhere else and it is graded.
pub data GoesThrough (frame : GroupView) (fault : Fault) (number i : ℕ) (grade : Grade) (table : List Firsts)
    (followers : List Follower) : Bool → Grade → List Firsts → List Follower → Type 0 where
  takes_lane : GoesThrough frame fault number i grade table followers true grade table followers
  ends_apart : (a : Arrival) → grade ≡ no_grade → EndsAt frame fault a → is_at_stem a ≡ false
      → GoesThrough frame fault number i grade table followers false (arrived_grade frame number a) table followers
  ends_at_stem : (x : NetId) (v : Tern) (lane : Bool) (after : List Firsts) (more : List Follower) → grade ≡ no_grade
      → EndsAt frame fault (AtStem x v) → Joins x.0 v i table followers lane after more
      → GoesThrough frame fault number i grade table followers lane grade after more

-- Fault f, which follows none, is below i, isn't detected, holds the good latches and arrives at net x with v.
pub record IsFirstAt (frame : GroupView) (faults : List Fault) (old : List Grade) (i : ℕ) (followers : List Follower)
    (x : ℕ) (v : Tern) (f : ℕ) : Type 0 where
  pub earlier : f < i
  pub was : grade_at old f ≡ no_grade
  pub leads : HasNoLane (following followers) f
  pub ends : (fault : Fault) → slice_get faults f ≡ Some fault → EndsAt frame fault (AtStem (record { 0 = x }) v)

-- What is kept of fault f after the frame may be kept of fault j.
abbrev pub SharesGrade : GroupView → List Fault → ℕ → List Grade → ℕ → ℕ → Type 0
SharesGrade frame faults number old j f = (fault other : Fault) (grade : Grade) → slice_get faults j ≡ Some fault
    → slice_get faults f ≡ Some other
    → IsGradedFault frame (machine_from frame other (grade_at old f)) number grade
    → IsGradedFault frame (machine_from frame fault (grade_at old j)) number grade

-- A follower and its first are below i and weren't detected, the first follows none, and they share their grade.
pub record IsFollower (frame : GroupView) (faults : List Fault) (number : ℕ) (old : List Grade) (i : ℕ)
    (followers : List Follower) (follower : Follower) : Type 0 where
  pub earlier : follower.fault < i
  pub first_earlier : follower.first < i
  pub was : grade_at old follower.fault ≡ no_grade
  pub first_was : grade_at old follower.first ≡ no_grade
  pub leads : HasNoLane (following followers) follower.first
  pub shares : SharesGrade frame faults number old follower.fault follower.first

-- The faults below i that share a grade: those that arrived first, and those that follow them, each once.
pub record AreSharing (frame : GroupView) (faults : List Fault) (number : ℕ) (old : List Grade) (i : ℕ)
    (table : List Firsts) (followers : List Follower) : Type 0 where
  pub firsts : (x : ℕ) (v : Tern) (f : ℕ) → first_at table x v ≡ Some f
      → IsFirstAt frame faults old i followers x v f
  pub each : (k : ℕ) → k < length followers
      → IsFollower frame faults number old i followers (get_or followers k no_follower)
  pub differ : (j k : ℕ) → j < k → k < length followers
      → (get_or followers j no_follower).fault ≢ (get_or followers k no_follower).fault

-- Each follower is another fault, and its first follows none.
pub record AreFollowers (followers : List Follower) (grades : List Grade) : Type 0 where
  pub known : (k : ℕ) → k < length followers → (get_or followers k no_follower).fault < length grades
  pub first_known : (k : ℕ) → k < length followers → (get_or followers k no_follower).first < length grades
  pub leads : (k : ℕ) → k < length followers → HasNoLane (following followers) (get_or followers k no_follower).first
  pub differ : (j k : ℕ) → j < k → k < length followers
      → (get_or followers j no_follower).fault ≢ (get_or followers k no_follower).fault

-- The first n followers have the grades of their firsts, and what is kept of no other fault has changed.
pub record AreCopied (n : ℕ) (followers : List Follower) (old new : List Grade) : Type 0 where
  pub each : (k : ℕ) → k < n → k < length followers
      → grade_at new (get_or followers k no_follower).fault ≡ grade_at old (get_or followers k no_follower).first
  pub others : (j : ℕ) → ((k : ℕ) → k < n → k < length followers → (get_or followers k no_follower).fault ≢ j)
      → grade_at new j ≡ grade_at old j

-- The faults below i of a frame went through it: in a lane, in none, or as one that follows another.
pub record FrameStandsFor (start : FrameStart) (number i : ℕ) (batch : BatchView) (stems : Stems) (grades : List Grade)
    (steps : ℕ) : Type 0 where
  pub stands : BatchStandsFor start number i (following stems.followers.items) batch grades steps
  pub shared : AreSharing start.frame start.faults number start.grades i (firsts_if stems.found stems.firsts.items)
      stems.followers.items
