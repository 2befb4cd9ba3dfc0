-- The attempt at a told frame: back from all-unknown to the latches that it needs, its vector, and ahead from the
-- states that it leaves to an output.
use Rattle.std.specs.Prelude.{◌≡◌, ◌<◌, ◌≤◌, ◌-◌, ℕ, List, [], ◌∷◌, ◌++◌, Bool, true, length, Option, Some, None}
use Rattle.std.specs.List.{list_any}
use Rattle.ht_tern.specs.declared.tern.Tern.{Tern}
use Rattle.ht_net.specs.declared.fault.Fault.{Fault}
use Rattle.ht_net.specs.Circuit.Netlist.{Netlist}
use Rattle.ht_net.specs.Frames.Frame.{next_state}
use Rattle.ht_net.specs.Frames.Faults.{tern_rules}
use Rattle.ht_net.specs.Detect.Detection.{terns_of, Detects}
use Rattle.ht_tree.specs.declared.aim.Aim.{Aim}
use Rattle.ht_tree.specs.declared.aim.Aim.TheVariants as aim
use Rattle.ht_tree.specs.declared.told.Told.{Told}
use Rattle.ht_tree.specs.declared.window.Spot.{Spot}
use Rattle.ht_tree.specs.declared.window.Spot.TheVariants.{Output, State, Cube}
use Rattle.ht_tree.specs.Walk.Walks.{IsComplete}
use Rattle.ht_tree.specs.Window.Windows.{SearchWindow, forward_window, back_window, forward_frames}
use Rattle.ht_tree.specs.Window.WindowStatus.{is_definite}
use Rattle.ht_tree.specs.Window.Nodes.{cube_of, judge_of}
use Rattle.ht_tree.specs.Record.ToldChains.{told_path}
use Rattle.ht_tree.specs.Walk.FoundLists.{vector_of}
use Rattle.ht_tree.specs.Record.Reached.{AreVectors, Reaches, ShowsFrom}
use Rattle.ht_tree.specs.Record.SearchRecords.{IsSpentWalk}

-- a list back to a cube has at most so many vectors
abbrev pub back_limit : ℕ
back_limit = 32

-- the latches that a told frame needs, as a cube
abbrev pub told_cube : Netlist → Told → List Tern
told_cube c told = cube_of c (told_path told)

-- the vector of a told frame
abbrev pub told_vector : Netlist → Told → List Bool
told_vector c told = vector_of c (told_path told) 0

-- the state of a machine after a told frame, from the latches that it needs and all others unknown
abbrev pub told_state : Netlist → Option Fault → Told → List Tern
told_state c fault told = next_state c (tern_rules fault) (terns_of (told_vector c told)) (told_cube c told)

-- a cube wants some latch at 0 or 1
abbrev pub is_wanting : List Tern → Bool
is_wanting cube = list_any is_definite cube

-- the window ahead of a told frame: from the states that it leaves to the two machines
abbrev pub ahead_window : Netlist → Fault → Told → SearchWindow
ahead_window c fault told =
    forward_window c fault forward_frames (told_state c None told) (told_state c (Some fault) told)

-- the window back to the latches that a told frame needs
abbrev pub cube_window : Netlist → Told → SearchWindow
cube_window c told = back_window c (told_cube c told) back_limit

-- the place is a next state
abbrev pub IsStateSpot : Spot → Type 0
IsStateSpot (State j) = Unit {0}
IsStateSpot (Output o) = ⊥
IsStateSpot Cube = ⊥

-- A list ahead from the states that a frame leaves: its last vector shows their difference at an output.
pub record ShowsAhead (c : Netlist) (fault : Fault) (told : Told) (ahead : List (List Bool)) : Type 0 where
  pub some : 0 < length ahead
  pub few : length ahead ≤ forward_frames
  pub output : ℕ
  pub shows : ShowsFrom c fault (told_state c None told) (told_state c (Some fault) told) ahead (length ahead - 1)
      output

-- the list ahead of a told frame: none where its place is an output
abbrev pub GoesAhead : Netlist → Fault → Told → Spot → List (List Bool) → Type 0
GoesAhead c fault told (Output o) ahead = ahead ≡ []
GoesAhead c fault told (State j) ahead = ShowsAhead c fault told ahead
GoesAhead c fault told Cube ahead = ⊥

-- the list back, the frame's vector, and the list ahead
abbrev pub composition : Netlist → Told → List (List Bool) → List (List Bool) → List (List Bool)
composition c told before ahead = before ++ told_vector c told ∷ ahead

-- An attempt that failed: a list back to the frame's latches, a list ahead, and a composition that doesn't detect.
pub record IsAttempt (c : Netlist) (fault : Fault) (told : Told) (before ahead : List (List Bool)) : Type 0 where
  pub before_wide : AreVectors c before
  pub ahead_wide : AreVectors c ahead
  pub few : length before ≤ back_limit
  pub reaches : Reaches c before (told_cube c told)
  pub goes : GoesAhead c fault told told.place ahead
  pub misses : (t o : ℕ) → ¬ Detects c fault (composition c told before ahead) t o

-- How the attempt at a frame ended, with the walk that shows it. There is a search ahead only where the place is a next
-- state, and a search back only to a cube that wants something.
abbrev pub IsAim : Netlist → Fault → ℕ → Told → Aim → Type 0
IsAim c fault budget told (aim.ForwardClosed tokens) =
    IsStateSpot told.place × IsComplete (judge_of (ahead_window c fault told)) tokens
IsAim c fault budget told (aim.ForwardOpen tokens) =
    IsStateSpot told.place × IsSpentWalk (ahead_window c fault told) budget tokens
IsAim c fault budget told (aim.BackClosed tokens) =
    (is_wanting (told_cube c told) ≡ true) × IsComplete (judge_of (cube_window c told)) tokens
IsAim c fault budget told (aim.BackOpen tokens) =
    (is_wanting (told_cube c told) ≡ true) × IsSpentWalk (cube_window c told) budget tokens
IsAim c fault budget told (aim.Attempt before ahead) = IsAttempt c fault told before.list ahead.list

-- what that means: no list ahead shows the difference, no list back leads to the latches, or both were found and fail
abbrev pub AimMeans : Netlist → Fault → Told → Aim → Type 0
AimMeans c fault told (aim.ForwardClosed tokens) = (list : List (List Bool)) → length list ≤ forward_frames
    → (t o : ℕ) → ¬ ShowsFrom c fault (told_state c None told) (told_state c (Some fault) told) list t o
AimMeans c fault told (aim.ForwardOpen tokens) = Unit {0}
AimMeans c fault told (aim.BackClosed tokens) = (list : List (List Bool)) → length list ≤ back_limit
    → ¬ Reaches c list (told_cube c told)
AimMeans c fault told (aim.BackOpen tokens) = Unit {0}
AimMeans c fault told (aim.Attempt before ahead) = IsAttempt c fault told before.list ahead.list
