-- A window with the decisions that stand.
use Rattle.std.specs.Prelude.{◌≡◌, ◌≤◌, ◌+◌, ◌*◌, ℕ, List, Option, None, length, get_or, take}
use Rattle.ht_tern.specs.declared.tern.Tern.{Tern}
use Rattle.ht_trail.specs.Trails.{CellsState, at_mark}
use Rattle.ht_events.specs.Plans.{max_frames}
use Rattle.ht_tree.specs.declared.token.Assign3.{Assign3}
use Rattle.ht_tree.specs.Window.Decisions.{decided_value}
use Rattle.ht_tree.specs.Window.Windows.{SearchWindow, IsWindow}
use Rattle.ht_window.specs.Starts.{start_of}
use Rattle.ht_window.specs.declared.decisions.Decisions.TheInside.{Inside}

-- A window with the decisions that stand, in their order.
pub record Standing : Type 0 where
  pub window : SearchWindow
  pub path : List Assign3

-- room for the variables of a window, whatever its start: its inputs in each frame, and two for each latch
abbrev pub variable_room : SearchWindow → ℕ
variable_room w = w.frames * w.circuit.inputs + (length w.circuit.dffs + length w.circuit.dffs)

-- the fields of a window and its decisions as what stands
abbrev pub standing_of : Inside → Standing
standing_of a = record {
  window = record { circuit = a.circuit.now; fault = a.fault; frames = a.frames; start = start_of a.start };
  path = a.path.items;
}

-- The trail has an old value for each decision, and at each mark the values were what the decisions before it say.
pub record IsValueHistory (values : CellsState (Option Tern)) (path : List Assign3) : Type 0 where
  pub count : length values.trail ≡ length path
  pub at : (k var : ℕ) → k ≤ length path → get_or (at_mark values k) var None ≡ decided_value (take k path) var

-- The fields stand for a window of at most so many frames, with room for each variable and a history of their values.
pub record IsStanding (a : Inside) : Type 0 where
  pub window : IsWindow (standing_of a).window
  pub few_frames : a.frames ≤ max_frames
  pub room : length a.values.values ≡ variable_room (standing_of a).window
  pub history : IsValueHistory a.values a.path.items
