-- The order in which the items of all frames are fired.
use Rattle.std.specs.Prelude.{◌≡◌, ◌<◌, ◌≤◌, ◌+◌, ◌*◌, ℕ, List, length, get_or}
use Rattle.ht_net.specs.Circuit.Netlist.{Netlist}
use Rattle.ht_events.specs.Items.{IsLoad, frame_items, frame_of, item_count, local_of}
use Rattle.ht_events.specs.declared.plan.Plan.TheInside.{Inside}
pub use Rattle.ht_events.specs.FrameLengths.{max_frames}

-- a circuit, a number of frames, the offsets of what reads each net, and the rank of each item of a frame
pub record PlanState : Type 0 where
  pub circuit : Netlist
  pub frames : ℕ
  pub readers : List (List ℕ)
  pub ranks : List ℕ

-- where an item stands in the order of all: by frame, and there by rank
abbrev pub position_at : PlanState → ℕ → ℕ
position_at s item = frame_of s.circuit item * frame_items s.circuit + get_or s.ranks
    (local_of s.circuit item) 0

-- ranks are those of a frame's items, and no two items stand at one position
pub record AreDistinctRanks (s : PlanState) : Type 0 where
  pub count : length s.ranks ≡ frame_items s.circuit
  pub small : (l : ℕ) → l < frame_items s.circuit → get_or s.ranks l 0 < frame_items s.circuit
  pub apart : (x y : ℕ) → x < item_count s.circuit s.frames → y < item_count s.circuit s.frames
      → position_at s x ≡ position_at s y → x ≡ y

-- an item stands at a position, where no other does, and before its loads
pub record HasPosition (s : PlanState) (item position : ℕ) : Type 0 where
  pub inside : position < item_count s.circuit s.frames
  pub at : position_at s item ≡ position
  pub only : (y : ℕ) → y < item_count s.circuit s.frames → position_at s y ≡ position → y ≡ item
  pub later : (y : ℕ) → IsLoad s.circuit s.frames item y → position < position_at s y

-- there is a frame, and no more than a window may have
pub record IsPlan (a : Inside) : Type 0 where
  pub some : 0 < a.frames
  pub few : a.frames ≤ max_frames
