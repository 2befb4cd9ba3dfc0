-- What the machines hold before each vector of a list.
use Rattle.std.specs.Prelude.{◌≡◌, ◌<◌, ◌≤◌, ◌+◌, ℕ, List, [], Bool, Option, Some, None, length, get_or, take}
use Rattle.ht_tern.specs.declared.tern.Tern.{Tern}
use Rattle.ht_net.specs.declared.fault.Fault.{Fault}
use Rattle.ht_net.specs.Circuit.Netlist.{Netlist}
use Rattle.ht_net.specs.Detect.Detection.{Detects, state_from, terns_of, unknown_state}
use Rattle.ht_faults.specs.Classes.{fault_at}
use Rattle.ht_group.specs.declared.diffs.Diff.{Diff}
use Rattle.ht_group.specs.Differences.{with_differences}
use Rattle.ht_group.specs.GroupView.{AreLatches}
use Rattle.ht_group.specs.GoodFrames.{AreFrameValues}
use Rattle.ht_compact.specs.declared.moment.Moment.{Moment}

-- what a machine's latches hold before vector t of a list
abbrev pub state_before : Netlist → Option Fault → List (List Bool) → ℕ → List Tern
state_before c machine list t = state_from c machine (unknown_state c) (take t list)

-- the differences that a history has before vector t, and none past its end
abbrev pub differences_before : List (List Diff) → ℕ → List Diff
differences_before history t = get_or history t []

-- the k-th of some histories, and the empty one past them
abbrev pub history_at : List (List (List Diff)) → ℕ → List (List Diff)
history_at histories k = get_or histories k []

-- the j-th of some numbers, and 0 past them
abbrev pub number_at : List ℕ → ℕ → ℕ
number_at numbers j = get_or numbers j 0

-- vector t of a list
abbrev pub vector_at : List (List Bool) → ℕ → List Bool
vector_at list t = get_or list t []

-- the k-th of the wanted faults
abbrev pub wanted_fault : Netlist → List ℕ → ℕ → Fault
wanted_fault c wanted k = fault_at c (get_or wanted k 0)

-- the list detects the fault at no vector before this one
abbrev pub IsUndetectedBefore : Netlist → Fault → List (List Bool) → ℕ → Type 0
IsUndetectedBefore c fault list n = (t o : ℕ) → t < n → ¬ Detects c fault list t o

-- No vector before vector t detects the fault, and its machine's latches are then the good ones with these differences.
pub record HoldsMachine (c : Netlist) (fault : Fault) (list : List (List Bool)) (t : ℕ)
    (diffs : List Diff) : Type 0 where
  pub state : with_differences (state_before c None list t) diffs
      ≡ state_before c (Some fault) list t
  pub undetected : IsUndetectedBefore c fault list t
  pub known : AreLatches c diffs

-- The machine of a fault before each vector up to the one that first detects it.
pub record IsFaultHistory (c : Netlist) (fault : Fault) (list : List (List Bool))
    (history : List (List Diff)) : Type 0 where
  pub last : ℕ
  pub every : length history ≡ last + 1
  pub output : ℕ
  pub detects : Detects c fault list last output
  pub each : (t : ℕ) → t ≤ last → HoldsMachine c fault list t (get_or history t [])

-- moment t of some, and another one past them
abbrev pub moment_at : List Moment → ℕ → Moment → Moment
moment_at moments t other = get_or moments t other

-- the good machine's latches before vector t, and the values of its nets in the frame of that vector
pub record IsMoment (c : Netlist) (list : List (List Bool)) (t : ℕ) (moment : Moment) : Type 0 where
  pub good : moment.latches.items ≡ state_before c None list t
  pub values : AreFrameValues c (terns_of (get_or list t [])) moment.latches.items
      moment.values.items

-- a moment for each vector of the list
pub record AreMoments (c : Netlist) (list : List (List Bool)) (moments : List Moment) : Type 0 where
  pub every : length moments ≡ length list
  pub each : (t : ℕ) (d : Moment) → t < length list → IsMoment c list t (get_or moments t d)
