-- The sweep: the windows of 1 frame, 2 frames and so on from one start, with one budget for all of them.
use Rattle.std.specs.Prelude.{◌≡◌, ◌+◌, ◌-◌, ℕ, List, [], ◌∷◌, ◌++◌, Bool, Some, length}
use Rattle.ht_tern.specs.declared.tern.Tern.{Tern}
use Rattle.ht_net.specs.declared.fault.Fault.{Fault}
use Rattle.ht_net.specs.Circuit.Netlist.{Netlist}
use Rattle.ht_net.specs.Frames.Rows.{Rows}
use Rattle.ht_net.specs.Detect.Detection.{Detects}
use Rattle.ht_tree.specs.declared.token.Token.{Token}
use Rattle.ht_tree.specs.Walk.Searches.{Guide, guide_of}
use Rattle.ht_tree.specs.Window.Windows.{SearchWindow, Start, unknown}
use Rattle.ht_tree.specs.Record.SearchRecords.{IsSweepRecord}
use Rattle.ht_events.specs.Plans.{max_frames}
use Rattle.ht_forward.specs.declared.sweeping.Swept.{Swept}
use Rattle.ht_forward.specs.declared.sweeping.Swept.TheVariants.{Found, Spent}
use Rattle.ht_forward.specs.Lengths.{CloseEach, left_after, next_length}
use Rattle.ht_forward.specs.AheadSearches.{FindsList, IsListAhead, IsListWithin, SpendsAhead}

-- The window of a sweep from a start, of so many frames.
abbrev pub window_of : Netlist → Fault → Start → ℕ → SearchWindow
window_of c fault start frames = record { circuit = c; fault = Some fault; frames = frames; start = start }

-- What the search of the window of so many frames goes by.
abbrev pub sweep_guide : Netlist → Fault → Start → ℕ → Guide
sweep_guide c fault start frames = guide_of (window_of c fault start frames)

-- The window after those that are closed.
abbrev pub next_window : Netlist → Fault → Start → List (List Token) → SearchWindow
next_window c fault start closed = window_of c fault start (next_length closed)

-- A sweep that finds a list: in the window after some that are closed.
pub record SweepFinds (c : Netlist) (fault : Fault) (start : Start) (budget : ℕ) (list : Rows) : Type 0 where
  pub closed : List (List Token)
  pub closes : CloseEach (sweep_guide c fault start) budget 1 closed
  pub finds : FindsList (next_window c fault start closed) (left_after budget closed) list

-- A sweep that spends its budget: its walks are those of some windows that are closed, and of the window after them.
pub record SweepSpends (c : Netlist) (fault : Fault) (start : Start) (budget : ℕ) (walks : List (List Token))
    : Type 0 where
  pub closed : List (List Token)
  pub last : List Token
  pub all : walks ≡ closed ++ last ∷ []
  pub closes : CloseEach (sweep_guide c fault start) budget 1 closed
  pub spends : SpendsAhead (next_window c fault start closed) (left_after budget closed) last

-- The searches that lead to each answer of a sweep from a start.
abbrev pub IsSweptFrom : Netlist → Fault → Start → ℕ → Swept → Type 0
IsSweptFrom c fault start budget (Found list) = SweepFinds c fault start budget list
IsSweptFrom c fault start budget (Spent walks) = SweepSpends c fault start budget walks

-- The list that a sweep finds, if it finds one, has at most as many vectors as the longest window has frames.
abbrev pub FindsShort : Netlist → Swept → Type 0
FindsShort c (Found list) = IsListWithin c max_frames list
FindsShort c (Spent walks) = Unit {0}

-- The searches that lead to each answer of a sweep from all-unknown.
abbrev pub IsSwept : Netlist → Fault → ℕ → Swept → Type 0
IsSwept c fault budget swept = IsSweptFrom c fault unknown budget swept

-- A list that a sweep from all-unknown finds: its last vector detects the fault, also after any other list.
pub record IsSweptList (c : Netlist) (fault : Fault) (list : Rows) : Type 0 where
  pub vectors : IsListWithin c max_frames list
  pub output : ℕ
  pub detects : (before : List (List Bool))
      → Detects c fault (before ++ list.list) (length (before ++ list.list) - 1) output

-- What each answer of a sweep from all-unknown means.
abbrev pub SweptHolds : Netlist → Fault → ℕ → Swept → Type 0
SweptHolds c fault budget (Found list) = IsSweptList c fault list
SweptHolds c fault budget (Spent walks) = IsSweepRecord c fault budget walks

-- What each answer of a sweep from a pair of states means: a list shows their difference at its last vector. Nothing is
-- said where the budget was spent.
abbrev pub SweptOnHolds : Netlist → Fault → List Tern → List Tern → Swept → Type 0
SweptOnHolds c fault good faulty (Found list) = IsListAhead c max_frames fault good faulty list
SweptOnHolds c fault good faulty (Spent walks) = Unit {0}
