-- The attempt at a told frame, search by search: ahead from the states that the frame leaves, then back to the latches
-- that it needs.
use Rattle.std.specs.Prelude.{◌≡◌, ◌++◌, ℕ, List, [], ◌∷◌, Bool, Option, Some, None}
use Rattle.std.specs.List.{All}
use Rattle.ht_tern.specs.declared.tern.Tern.{Tern}
use Rattle.ht_net.specs.declared.fault.Fault.{Fault}
use Rattle.ht_net.specs.Circuit.Netlist.{Netlist}
use Rattle.ht_net.specs.Frames.Rows.{Rows}
use Rattle.ht_net.specs.Detect.Detection.{Detects, DetectsFrom, IsStart}
use Rattle.ht_tree.specs.declared.aim.Aim.{Aim}
use Rattle.ht_tree.specs.declared.aim.Aim.TheVariants as aim
use Rattle.ht_tree.specs.declared.told.Told.{Told}
use Rattle.ht_tree.specs.declared.window.Spot.{Spot}
use Rattle.ht_tree.specs.declared.window.Spot.TheVariants.{Output, State, Cube}
use Rattle.ht_tree.specs.Record.AbortRecords.{IsFirstAim}
use Rattle.ht_tree.specs.Record.AimedAttempts.{ahead_window, back_limit, composition, told_cube, GoesAhead, IsAim}
use Rattle.ht_tree.specs.Record.Reached.{AreVectors}
use Rattle.ht_forward.specs.declared.ahead.Ahead.{Ahead}
use Rattle.ht_forward.specs.declared.ahead.Ahead.TheVariants as ahead
use Rattle.ht_forward.specs.AheadSearches.{IsAhead}
use Rattle.ht_justify.specs.declared.justification.Back.{Back}
use Rattle.ht_justify.specs.declared.justification.Back.TheVariants as back
use Rattle.ht_justify.specs.Answers.{IsBack}
use Rattle.ht_engine.specs.declared.attempt.Attempted.{Attempted}
use Rattle.ht_engine.specs.declared.attempt.Attempted.TheVariants.{Detected, Failed}

-- A frame is told at an output or at a next state.
abbrev pub IsFrameSpot : Spot → Type 0
IsFrameSpot (Output o) = Unit {0}
IsFrameSpot (State j) = Unit {0}
IsFrameSpot Cube = ⊥

-- Each frame is told at an output or at a next state.
abbrev pub AreFrameSpots : List Told → Type 0
AreFrameSpots told = All (λ (frame : Told). IsFrameSpot frame.place) told

-- No vectors.
abbrev pub no_vectors : Netlist → Rows
no_vectors c = record { width = c.inputs; list = [] }

-- What the search ahead comes to: none is made where the frame's place is an output.
abbrev pub IsAheadOf : Netlist → Fault → ℕ → Told → Spot → Ahead → Type 0
IsAheadOf c fault budget told (Output o) answer = answer ≡ ahead.Found (no_vectors c)
IsAheadOf c fault budget told (State j) answer = IsAhead (ahead_window c fault told) budget answer
IsAheadOf c fault budget told Cube answer = ⊥

-- What the search back comes to.
abbrev pub IsBackOf : Netlist → ℕ → Told → Back → Type 0
IsBackOf c budget told answer = IsBack c (told_cube c told) back_limit budget answer

-- The list ahead is found.
abbrev pub FindsAhead : Netlist → Fault → ℕ → Told → Rows → Type 0
FindsAhead c fault budget told list = IsAheadOf c fault budget told told.place (ahead.Found list)

-- The list back is found.
abbrev pub FindsBack : Netlist → ℕ → Told → Rows → Type 0
FindsBack c budget told list = IsBackOf c budget told (back.Reached list)

-- Both lists are found.
pub record FindsBoth (c : Netlist) (fault : Fault) (budget : ℕ) (told : Told) (before after : Rows) : Type 0 where
  pub ahead : FindsAhead c fault budget told after
  pub back : FindsBack c budget told before

-- A list ahead is found, so there is a search back.
abbrev pub TurnsBack : Netlist → Fault → ℕ → Told → Type 0
TurnsBack c fault budget told = (list : Rows) × FindsAhead c fault budget told list

-- How the attempt fails: one of its searches closes or spends its budget, or both find a list, and with the frame's
-- vector between them the two miss the fault.
abbrev pub Fails : Netlist → Fault → ℕ → Told → Aim → Type 0
Fails c fault budget told (aim.ForwardClosed tokens) =
    IsAheadOf c fault budget told told.place (ahead.Closed tokens)
Fails c fault budget told (aim.ForwardOpen tokens) =
    IsAheadOf c fault budget told told.place (ahead.Spent tokens)
Fails c fault budget told (aim.BackClosed tokens) =
    TurnsBack c fault budget told × IsBackOf c budget told (back.Closed tokens)
Fails c fault budget told (aim.BackOpen tokens) =
    TurnsBack c fault budget told × IsBackOf c budget told (back.Spent tokens)
Fails c fault budget told (aim.Attempt before after) =
    FindsBoth c fault budget told before after
    × ((t o : ℕ) → ¬ Detects c fault (composition c told before.list after.list) t o)

-- The attempt finds a list back and a list ahead, and with the frame's vector between them the two detect the fault.
pub record Composes (c : Netlist) (fault : Fault) (budget : ℕ) (told : Told) (list : Rows) : Type 0 where
  pub before : Rows
  pub after : Rows
  pub found : FindsBoth c fault budget told before after
  pub listed : list ≡ record { width = c.inputs; list = composition c told before.list after.list }
  pub vector : ℕ
  pub output : ℕ
  pub detects : Detects c fault list.list vector output

-- The attempt is made exactly where a frame was told, at the first one, and it fails.
abbrev pub FailsFirst : Netlist → Fault → ℕ → List Told → Option Aim → Type 0
FailsFirst c fault budget [] None = Unit {0}
FailsFirst c fault budget [] (Some aim) = ⊥
FailsFirst c fault budget (told ∷ chain) None = ⊥
FailsFirst c fault budget (told ∷ chain) (Some aim) = Fails c fault budget told aim

-- The attempt at the first frame that was told finds the list.
abbrev pub ComposesFirst : Netlist → Fault → ℕ → List Told → Rows → Type 0
ComposesFirst c fault budget [] list = ⊥
ComposesFirst c fault budget (told ∷ chain) list = Composes c fault budget told list

-- The searches that lead to each end of an attempt.
abbrev pub IsAttempted : Netlist → Fault → ℕ → List Told → Attempted → Type 0
IsAttempted c fault budget told (Detected list) = ComposesFirst c fault budget told list
IsAttempted c fault budget told (Failed aim) = FailsFirst c fault budget told aim

-- A list that detects the fault from every start, also after any other list.
pub record DetectsAlways (c : Netlist) (fault : Fault) (list : Rows) : Type 0 where
  pub wide : AreVectors c list.list
  pub width : list.width ≡ c.inputs
  pub detects : (start : List Tern) → IsStart c start → (before : List (List Bool))
      → (vector : ℕ) × (output : ℕ) × DetectsFrom c fault start (before ++ list.list) vector output

-- A list ahead of a told frame.
pub record IsListAheadOf (c : Netlist) (fault : Fault) (told : Told) (list : Rows) : Type 0 where
  pub wide : AreVectors c list.list
  pub width : list.width ≡ c.inputs
  pub goes : GoesAhead c fault told told.place list.list

-- What the end of the search ahead means.
abbrev pub AheadOfHolds : Netlist → Fault → ℕ → Told → Ahead → Type 0
AheadOfHolds c fault budget told (ahead.Found list) = IsListAheadOf c fault told list
AheadOfHolds c fault budget told (ahead.Closed tokens) = IsAim c fault budget told (aim.ForwardClosed tokens)
AheadOfHolds c fault budget told (ahead.Spent tokens) = IsAim c fault budget told (aim.ForwardOpen tokens)

-- What an attempt that ended means.
abbrev pub AttemptHolds : Netlist → Fault → ℕ → List Told → Attempted → Type 0
AttemptHolds c fault budget told (Detected list) = DetectsAlways c fault list
AttemptHolds c fault budget told (Failed aim) = IsFirstAim c fault budget told aim
