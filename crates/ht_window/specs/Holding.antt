-- The part of a window that holds its decisions and cells, as what events keep up to date.
use Rattle.std.specs.Prelude.{◌≡◌, ◌<◌, ◌≤◌, ℕ, List, true, Option, length}
use Rattle.ht_pairs.specs.Pairs.{Pair}
use Rattle.ht_trail.specs.Trails.{CellsState, IsLater}
use Rattle.ht_events.specs.Plans.{max_frames}
use Rattle.ht_events.specs.Items.{frame_of, local_of, driven_net}
use Rattle.ht_tree.specs.Window.Windows.{IsWindow}
use Rattle.ht_relevant.specs.Near.{RelevantState}
use Rattle.ht_window.specs.Matters.{is_relevant}
use Rattle.ht_window.specs.Standing.{Standing}
use Rattle.ht_window.specs.Cells.{env_at, cell_count, HoldsValue}
use Rattle.ht_window.specs.declared.held.Held.TheInside.{Inside}

-- A window with its decisions, its cells with what they were before each mark, and the nets that matter, if not all do.
pub record HeldState : Type 0 where
  pub standing : Standing
  pub cells : CellsState (List Pair)
  pub relevant : Option RelevantState

-- a cell for each net of each frame, and room for the pins of the widest gate
pub record IsHeld (a : Inside) : Type 0 where
  pub window : IsWindow a.decisions.window
  pub few : a.decisions.window.frames ≤ max_frames
  pub count : length a.cells.values ≡ cell_count a.decisions.window
  pub pins : length a.pins.items ≡ 255

-- where net x of frame f matters, it holds what it gets
abbrev pub MayHold : HeldState → ℕ → ℕ → Type 0
MayHold h f x = is_relevant h.relevant f x ≡ true
    → HoldsValue h.standing.window h.standing.path h.cells.values f x

-- where the item's net matters, its cell is what its arguments give
abbrev pub item_agrees : HeldState → ℕ → Type 0
item_agrees h item = MayHold h (frame_of h.standing.window.circuit item)
    (driven_net h.standing.window.circuit (local_of h.standing.window.circuit item))

-- The decisions, the nets that matter, the sets of inputs, and what stands at every mark stay.
pub record KeepsHeld (a b : HeldState) : Type 0 where
  pub standing : b.standing ≡ a.standing
  pub relevant : b.relevant ≡ a.relevant
  pub later : IsLater a.cells b.cells
  pub inputs : (f i : ℕ) → f < a.standing.window.frames → i < a.standing.window.circuit.inputs
      → env_at a.standing.window b.cells.values f i ≡ env_at a.standing.window a.cells.values f i
